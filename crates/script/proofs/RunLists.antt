-- Runs of a row, as a walk along it finds them.
use Rattle.std.proofs.Common.{◌≡◌, ℕ, zero, suc, ◌+◌, ◌-◌, ◌<◌, ◌≤◌, Bool, true, false, cond, eqb, List, [], ◌∷◌, length, get_or, drop, sym, refl, ap, ◌∙◌, subst, ⊎_elim, arith, Some, None, Option, MatchOption}
use Rattle.std.proofs.lemmas.List.{drop_all, drop_more}
use Rattle.std.specs.Option.{unwrap_or}
use Rattle.std.proofs.lemmas.Bool.{cases_Bool, cases_lt, true≢false, eq-eqb, ne_eqb}
use Rattle.script.specs.declared.ranges.Run.{Run}
use Rattle.script.specs.Ranges.{grown, runs_from}

-- the first run begins there or later
abbrev Later : ℕ → List Run → Type 0
Later at [] = Unit {0}
Later at (run ∷ more) = at ≤ run.from

later_grown : (at : ℕ) (all : List Run) → Later at (grown at all)
later_grown at [] = omega arith
later_grown at (run ∷ more) =
    elim (eqb run.from (at + 1)) as (λ t. Later at (cond t (record { from = at; to = run.to } ∷ more) (record { from = at; to = at + 1 } ∷ run ∷ more))) [ true ↦ omega arith | false ↦ omega arith ]

later_less : (at : ℕ) (all : List Run) → Later (at + 1) all → Later at all
later_less at [] later = tt
later_less at (run ∷ more) later = omega arith

later : (at : ℕ) (row : List Bool) → Later at (runs_from at row)
later at [] = tt
later at (true ∷ row) = later_grown at (runs_from (at + 1) row)
later at (false ∷ row) = later_less at (runs_from (at + 1) row) (later (at + 1) row)

grown_apart : (at : ℕ) (all : List Run) → Later (at + 2) all → grown at all ≡ record { from = at; to = at + 1 } ∷ all
grown_apart at [] far = refl
grown_apart at (run ∷ more) far =
    ap (λ t. cond t (record { from = at; to = run.to } ∷ more) (record { from = at; to = at + 1 } ∷ run ∷ more)) (ne_eqb run.from (at + 1) (λ e. omega arith))

grown_joined : (at to : ℕ) (more : List Run) → grown at (record { from = at + 1; to = to } ∷ more) ≡ record { from = at; to = to } ∷ more
grown_joined at to more =
    ap (λ t. cond t (record { from = at; to = to } ∷ more) (record { from = at; to = at + 1 } ∷ record { from = at + 1; to = to } ∷ more)) (eq-eqb (at + 1) (at + 1) refl)

module _ (row : List Bool) where
  abbrev from_on : ℕ → List Run
  from_on at = runs_from at (drop at row)

  not_held : (at : ℕ) → at < length row → (get_or row at false ≡ true → ⊥) → from_on at ≡ from_on (at + 1)
  not_held at inside no_slot =
      let free : get_or row at false ≡ false = ⊎_elim (λ t. absurd (no_slot t)) (λ f. f) (cases_Bool (get_or row at false)) in
      ap (runs_from at) (drop_more row at false inside ∙ ap (λ b. b ∷ drop (at + 1) row) free)

  held : (at : ℕ) → at < length row → get_or row at false ≡ true → from_on at ≡ grown at (from_on (at + 1))
  held at inside slot = ap (runs_from at) (drop_more row at false inside ∙ ap (λ b. b ∷ drop (at + 1) row) slot)

  skip : (n at to : ℕ) → to ≡ at + n → to ≤ length row → ((k : ℕ) → at ≤ k → k < to → get_or row k false ≡ true → ⊥) → from_on at ≡ from_on to
  skip zero at to end within none = ap from_on (omega arith)
  skip (suc n) at to end within none =
      not_held at (omega arith) (none at (omega arith) (omega arith))
      ∙ skip n (at + 1) to (omega arith) within (λ k low high. none k (omega arith) high)

  -- after a run comes a slot that is not held
  apart : (at : ℕ) → (at < length row → get_or row at false ≡ false) → Later (at + 1) (from_on at)
  apart at stops =
      ⊎_elim
      (λ inside. subst (Later (at + 1)) (sym (not_held at inside (λ t. true≢false (sym t ∙ stops inside)))) (later (at + 1) (drop (at + 1) row)))
      (λ past. subst (λ l. Later (at + 1) (runs_from at l)) (sym (drop_all at row past)) tt)
      (cases_lt at (length row))

  run : (n at to : ℕ) → to ≡ at + suc n → to ≤ length row → ((k : ℕ) → at ≤ k → k < to → get_or row k false ≡ true) → (to < length row → get_or row to false ≡ false) → from_on at ≡ record { from = at; to = to } ∷ from_on to
  run zero at to end within all stops =
      let next : to ≡ at + 1 = omega arith in
      held at (omega arith) (all at (omega arith) (omega arith))
      ∙ ap (λ k. grown at (from_on k)) (sym next)
      ∙ grown_apart at (from_on to) (subst (λ k. Later k (from_on to)) (omega arith) (apart to stops))
      ∙ ap (λ k. record { from = at; to = k } ∷ from_on to) (sym next)
  run (suc n) at to end within all stops =
      held at (omega arith) (all at (omega arith) (omega arith))
      ∙ ap (grown at) (run n (at + 1) to (omega arith) within (λ k low high. all k (omega arith) high) stops)
      ∙ grown_joined at to (from_on to)

  pub no_run : (at : ℕ) → ((k : ℕ) → at ≤ k → k < length row → get_or row k false ≡ true → ⊥) → from_on at ≡ []
  no_run at none =
      ⊎_elim
      (λ inside. skip (length row - at) at (length row) (omega arith) (omega arith) none ∙ ap (runs_from (length row)) (drop_all (length row) row (omega arith)))
      (λ past. ap (runs_from at) (drop_all at row past))
      (cases_lt at (length row))

  module _ (at from to : ℕ) (low : at ≤ from) (some : from < length row) (none : (k : ℕ) → at ≤ k → k < from → get_or row k false ≡ true → ⊥) (slot : get_or row from false ≡ true)
      (forward : from ≤ to) (within : to ≤ length row) (all : (k : ℕ) → from ≤ k → k < to → get_or row k false ≡ false → ⊥) (stops : to < length row → get_or row to false ≡ false) where
    longer : from < to
    longer =
        ⊎_elim
        (λ less. less)
        (λ more.
        let same : to ≡ from = omega arith in
        absurd (true≢false (sym slot ∙ ap (λ k. get_or row k false) (sym same) ∙ stops (omega arith))))
        (cases_lt from to)

    a_run : from_on at ≡ record { from = from; to = to } ∷ from_on to
    a_run =
        let more = longer in
        skip (from - at) at from (omega arith) (omega arith) none
        ∙ run (to - from - 1) from to (omega arith) within (λ k low high. ⊎_elim (λ t. t) (λ f. absurd (all k low high f)) (cases_Bool (get_or row k false))) stops

  -- a run ends before the first slot that is not held, or with the row
  pub first_run : (at from : ℕ) (end : Option ℕ) → (at ≤ from) × (from < length row) × ((k : ℕ) → at ≤ k → k < from → get_or row k false ≡ true → ⊥) × (get_or row from false ≡ true)
      → MatchOption end ((k : ℕ) → from ≤ k → k < length row → get_or row k false ≡ false → ⊥) (λ to. (from ≤ to) × (to < length row) × ((k : ℕ) → from ≤ k → k < to → get_or row k false ≡ false → ⊥) × (get_or row to false ≡ false))
      → from_on at ≡ record { from = from; to = unwrap_or end (length row) } ∷ from_on (unwrap_or end (length row))
  first_run at from None (low, some, none, slot) all =
      a_run at from (length row) low some none slot (omega arith) (omega arith) all (λ inside. absurd (omega (arith, inside)))
  first_run at from (Some to) (low, some, none, slot) (forward, within, all, stops) =
      a_run at from to low some none slot forward (omega arith) all (λ inside. stops)
