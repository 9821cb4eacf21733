-- The lines of `show`, one flow after another.
use Rattle.std.proofs.Common.{◌≡◌, ℕ, ◌+◌, Bool, false, true, List, [], ◌∷◌, ◌++◌, is_some, Some, None, Option, sym, refl, ap, ◌∙◌, subst, add-one, MatchOption}
use Rattle.labels.specs.Directories.{entry_of}
use Rattle.labels.specs.Names.{spelled}
use Rattle.labels.specs.declared.names.Name.{Name}
use Rattle.planner.specs.Bookings.{demand_of}
use Rattle.planner.specs.Questions.{Wait}
use Rattle.planner.specs.declared.flows.Flow.{Flow}
use Rattle.session.specs.Sessions.{Named, State}
use Rattle.session.specs.Shows.{ShowsBelow, ShowsFlow, flow_line, slot_row}

-- a flow with a label is booked
pub shown_flow : (s : State) (n : ℕ) (name : Name) (demand wait : ℕ) (row : List Bool)
    → Named s → entry_of s.labels n ≡ Some name → demand ≡ demand_of (s.shown.booked n)
    → Wait (s.shown.holds n) s.shown.period wait → row ≡ slot_row s.shown n
    → ShowsFlow s n (flow_line (spelled name) n demand wait row ∷ [])
shown_flow s n name demand wait row named entry d w r =
    subst
    (λ l. ShowsFlow s n (l ∷ []))
    (sym (ap (λ v. flow_line (spelled name) n v wait row) d ∙ ap (flow_line (spelled name) n (demand_of (s.shown.booked n)) wait) r))
    (there (s.shown.booked n) (ap is_some (sym entry) ∙ named n))
  where
    there : (o : Option Flow) → true ≡ is_some o
        → MatchOption o (flow_line (spelled name) n (demand_of o) wait (slot_row s.shown n) ∷ [] ≡ []) (λ f. (label : Name) × (gap : ℕ) × (entry_of s.labels n ≡ Some label) × Wait (s.shown.holds n) s.shown.period gap × (flow_line (spelled name) n (demand_of o) wait (slot_row s.shown n) ∷ [] ≡ flow_line (spelled label) n f.demand gap (slot_row s.shown n) ∷ []))
    there None e = cc
    there (Some f) e = (name, wait, entry, w, refl)

-- one without is not
pub no_flow : (s : State) (n : ℕ) → Named s → entry_of s.labels n ≡ None → ShowsFlow s n []
no_flow s n named entry = there (s.shown.booked n) (ap is_some (sym entry) ∙ named n)
  where
    there : (o : Option Flow) → false ≡ is_some o
        → MatchOption o (◌≡◌ {A = List (List ℕ)} [] []) (λ f. (name : Name) × (wait : ℕ) × (entry_of s.labels n ≡ Some name) × Wait (s.shown.holds n) s.shown.period wait × ([] ≡ flow_line (spelled name) n f.demand wait (slot_row s.shown n) ∷ []))
    there None e = refl
    there (Some f) e = cc

pub shows_more : (s : State) (n : ℕ) (lines piece : List (List ℕ)) → ShowsBelow s n lines → ShowsFlow s n piece → ShowsBelow s (n + 1) (lines ++ piece)
unfolding ShowsBelow
shows_more s n lines piece h k = subst (λ m. ShowsBelow s m (lines ++ piece)) (sym (add-one n)) (lines, piece, h, k, refl)
