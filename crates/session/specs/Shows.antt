-- What `show` prints: a line for each booked flow.
use Rattle.std.specs.Prelude.{◌≡◌, ℕ, zero, suc, Bool, List, [], ◌∷◌, ◌++◌, map, Some, codes, decimal, MatchOption}
use Rattle.std.specs.List.{range_with_len}
use Rattle.labels.specs.Directories.{entry_of}
use Rattle.labels.specs.Names.{spelled}
use Rattle.labels.specs.declared.names.Name.{Name}
use Rattle.planner.specs.Questions.{Wait}
use Rattle.planner.specs.Shown.{Shown}
use Rattle.script.specs.Ranges.{ranges, runs}
use Rattle.session.specs.Sessions.{State}

-- which slots of the period the flow holds
unfoldable pub slot_row : Shown → ℕ → List Bool
slot_row s n = map (s.holds n) (range_with_len 0 s.period)

-- name, number, demand, wait and ranges, parted by one space
abbrev pub flow_line : List ℕ → ℕ → ℕ → ℕ → List Bool → List ℕ
flow_line name n demand wait row =
    name ++ (codes " " ++ (decimal n ++ (codes " " ++ (decimal demand ++ (codes " " ++ (decimal wait ++ (codes " " ++ ranges (runs row))))))))

-- the lines of flow n: none, or the one of its booking
abbrev pub ShowsFlow : State → ℕ → List (List ℕ) → Type 0
ShowsFlow s n lines =
    MatchOption (s.shown.booked n)
    (lines ≡ [])
    (λ f. (name : Name) × (wait : ℕ) × (entry_of s.labels n ≡ Some name) × Wait (s.shown.holds n) s.shown.period wait × (lines ≡ flow_line (spelled name) n f.demand wait (slot_row s.shown n) ∷ []))

-- the lines of the flows numbered below a number, by number
unfoldable pub ShowsBelow : State → ℕ → List (List ℕ) → Type 0
ShowsBelow s zero out = out ≡ []
ShowsBelow s (suc n) out =
    (before : List (List ℕ)) × (last : List (List ℕ)) × ShowsBelow s n before × ShowsFlow s n last × (out ≡ before ++ last)
