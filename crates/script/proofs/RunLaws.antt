-- The runs of a row are its maximal runs of held slots.
use Rattle.std.proofs.Common.{◌≡◌, ℕ, zero, suc, ◌+◌, ◌-◌, ◌<◌, ◌≤◌, Bool, true, false, cond, ◌⊎◌, List, [], ◌∷◌, get_or, sym, refl, ap, subst, inl, inr, ⊎_elim, arith}
use Rattle.std.proofs.lemmas.Bool.{cases_eq, cases_lt, false≢true, eq-eqb, ne_eqb}
use Rattle.script.specs.declared.ranges.Run.{Run}
use Rattle.script.specs.Ranges.{grown, runs_from, runs, Rising, InRuns, RunsOf, RunsStand}

abbrev Way : ℕ → Run → List Run → Type 0
Way at run more =
    ((run.from ≡ at + 1) × (grown at (run ∷ more) ≡ record { from = at; to = run.to } ∷ more))
    ⊎ ((run.from ≡ at + 1 → ⊥) × (grown at (run ∷ more) ≡ record { from = at; to = at + 1 } ∷ run ∷ more))

way : (at : ℕ) (run : Run) (more : List Run) → Way at run more
way at run more =
    ⊎_elim
    (λ same. inl (same, ap (λ t. cond t (record { from = at; to = run.to } ∷ more) (record { from = at; to = at + 1 } ∷ run ∷ more)) (eq-eqb run.from (at + 1) same)))
    (λ other. inr (other, ap (λ t. cond t (record { from = at; to = run.to } ∷ more) (record { from = at; to = at + 1 } ∷ run ∷ more)) (ne_eqb run.from (at + 1) other)))
    (cases_eq run.from (at + 1))

-- the slot `at` before the runs
rising_grown : (at : ℕ) (all : List Run) → Rising (at + 1) all → Rising at (grown at all)
rising_grown at [] rising = (omega arith, omega arith, tt)
rising_grown at (run ∷ more) rising =
    ⊎_elim
    (λ same. subst (Rising at) (sym same.1) (omega arith, omega (arith, rising.0, rising.1), rising.2))
    (λ other. subst (Rising at) (sym other.1) (omega arith, omega arith, (omega (arith, rising.0, other.0), rising.1, rising.2)))
    (way at run more)

in_grown : (at k : ℕ) (all : List Run) → Rising (at + 1) all → (k ≡ at) ⊎ InRuns k all → InRuns k (grown at all)
in_grown at k [] rising (inl same) = inl (omega arith, omega arith)
in_grown at k [] rising (inr among) = absurd among
in_grown at k (run ∷ more) rising among =
    ⊎_elim
    (λ same. subst (InRuns k) (sym same.1) (joined same.0 among))
    (λ other. subst (InRuns k) (sym other.1) (apart among))
    (way at run more)
  where
    joined : run.from ≡ at + 1 → (k ≡ at) ⊎ InRuns k (run ∷ more) → InRuns k (record { from = at; to = run.to } ∷ more)
    joined same (inl e) = inl (omega arith, omega (arith, rising.0, rising.1))
    joined same (inr (inl h)) = inl (omega (arith, h.0), h.1)
    joined same (inr (inr later)) = inr later

    apart : (k ≡ at) ⊎ InRuns k (run ∷ more) → InRuns k (record { from = at; to = at + 1 } ∷ run ∷ more)
    apart (inl e) = inl (omega arith, omega arith)
    apart (inr here) = inr here

from_grown : (at k : ℕ) (all : List Run) → InRuns k (grown at all) → (k ≡ at) ⊎ InRuns k all
from_grown at k [] (inl h) = inl (omega (arith, h.0, h.1))
from_grown at k [] (inr among) = absurd among
from_grown at k (run ∷ more) among =
    ⊎_elim
    (λ same. joined same.0 (subst (InRuns k) same.1 among))
    (λ other. apart (subst (InRuns k) other.1 among))
    (way at run more)
  where
    joined : run.from ≡ at + 1 → InRuns k (record { from = at; to = run.to } ∷ more) → (k ≡ at) ⊎ InRuns k (run ∷ more)
    joined same (inl h) = ⊎_elim (λ e. inl e) (λ other. inr (inl (omega (arith, h.0, other), h.1))) (cases_eq k at)
    joined same (inr later) = inr (inr later)

    apart : InRuns k (record { from = at; to = at + 1 } ∷ run ∷ more) → (k ≡ at) ⊎ InRuns k (run ∷ more)
    apart (inl h) = inl (omega (arith, h.0, h.1))
    apart (inr here) = inr here

-- the same of a row whose first slot is `at`
record From (at : ℕ) (row : List Bool) (all : List Run) : Type 0 where
  pub rising : Rising at all
  pub each : (k : ℕ) → get_or row k false ≡ true → InRuns (at + k) all
  pub only : (k : ℕ) → InRuns k all → (at ≤ k) × (get_or row (k - at) false ≡ true)

rising_less : (at : ℕ) (all : List Run) → Rising (at + 1) all → Rising at all
rising_less at [] rising = tt
rising_less at (run ∷ more) rising = (omega (arith, rising.0), rising.1, rising.2)

before : (at : ℕ) (b : Bool) (row : List Bool) (k : ℕ) → at + 1 ≤ k → get_or row (k - (at + 1)) false ≡ true → (at ≤ k) × (get_or (b ∷ row) (k - at) false ≡ true)
before at b row k later held =
    let step : suc (k - (at + 1)) ≡ k - at = omega arith in
    (omega arith, subst (λ j. get_or (b ∷ row) j false ≡ true) step held)

each_later : (at : ℕ) (row : List Bool) (all : List Run) → From (at + 1) row all → (k : ℕ) → get_or row k false ≡ true → InRuns (at + suc k) all
each_later at row all is k held = subst (λ j. InRuns j all) (omega arith) (is.each k held)

from : (at : ℕ) (row : List Bool) → From at row (runs_from at row)
from at [] = record { rising = tt; each = λ k held. absurd (false≢true held); only = λ k among. absurd among }
from at (true ∷ row) =
    let more = from (at + 1) row in
    record { rising = rising_grown at _ more.rising; each = each' more; only = λ k among. only' more k (from_grown at k _ among) }
  where
    each' : From (at + 1) row (runs_from (at + 1) row) → (k : ℕ) → get_or (true ∷ row) k false ≡ true → InRuns (at + k) (grown at (runs_from (at + 1) row))
    each' more zero held = in_grown at (at + 0) _ more.rising (inl (omega arith))
    each' more (suc k) held = in_grown at (at + suc k) _ more.rising (inr (each_later at row _ more k held))

    only' : From (at + 1) row (runs_from (at + 1) row) → (k : ℕ) → (k ≡ at) ⊎ InRuns k (runs_from (at + 1) row) → (at ≤ k) × (get_or (true ∷ row) (k - at) false ≡ true)
    only' more k (inl same) =
        let none : 0 ≡ k - at = omega arith in
        (omega arith, subst (λ j. get_or (true ∷ row) j false ≡ true) none refl)
    only' more k (inr among) = let later = more.only k among in before at true row k later.0 later.1
from at (false ∷ row) =
    let more = from (at + 1) row in
    record { rising = rising_less at _ more.rising; each = each' more; only = λ k among. let later = more.only k among in before at false row k later.0 later.1 }
  where
    each' : From (at + 1) row (runs_from (at + 1) row) → (k : ℕ) → get_or (false ∷ row) k false ≡ true → InRuns (at + k) (runs_from (at + 1) row)
    each' more zero held = absurd (false≢true held)
    each' more (suc k) held = each_later at row _ more k held

least : (low k : ℕ) (all : List Run) → Rising low all → InRuns k all → low ≤ k
least low k [] rising among = absurd among
least low k (run ∷ more) rising (inl h) = omega (arith, rising.0, h.0)
least low k (run ∷ more) rising (inr later) = omega (arith, rising.0, rising.1, least (run.to + 1) k more rising.2 later)

-- runs with the same slots are the same: they begin with the least, and end before the first that is missing
one_list : (low high : ℕ) (us vs : List Run) → Rising low us → Rising high vs → ((k : ℕ) → InRuns k us → InRuns k vs) → ((k : ℕ) → InRuns k vs → InRuns k us) → us ≡ vs
one_list low high [] [] ru rv to back = refl
one_list low high [] (v ∷ vs) ru rv to back = absurd (back v.from (inl (omega arith, rv.1)))
one_list low high (u ∷ us) [] ru rv to back = absurd (to u.from (inl (omega arith, ru.1)))
one_list low high (u ∷ us) (v ∷ vs) ru rv to back =
    let first : u.from ≡ v.from = omega (arith, starts v vs rv.1 rv.2 (to u.from (inl (omega arith, ru.1))), starts u us ru.1 ru.2 (back v.from (inl (omega arith, rv.1)))) in
    let end : u.to ≡ v.to = omega (arith, ends u us v vs ru.1 ru.2 first back, ends v vs u us rv.1 rv.2 (sym first) to) in
    let rest = one_list (u.to + 1) (v.to + 1) us vs ru.2 rv.2 (λ k among. other k v vs (omega (arith, least (u.to + 1) k us ru.2 among)) (to k (inr among))) (λ k among. other k u us (omega (arith, least (v.to + 1) k vs rv.2 among)) (back k (inr among))) in
    (λ i. record { from = first i; to = end i } ∷ rest i)
  where
    starts : (run : Run) (more : List Run) {k : ℕ} → run.from < run.to → Rising (run.to + 1) more → InRuns k (run ∷ more) → run.from ≤ k
    starts run more some rising (inl h) = h.0
    starts run more {k} some rising (inr later) = omega (arith, least (run.to + 1) k more rising later)

    ends : (run : Run) (more : List Run) (next : Run) (others : List Run) → run.from < run.to → Rising (run.to + 1) more → run.from ≡ next.from → ((k : ℕ) → InRuns k (next ∷ others) → InRuns k (run ∷ more)) → next.to ≤ run.to
    ends run more next others some rising same into =
        ⊎_elim (λ past. absurd (missing (into run.to (inl (omega arith, past))))) (λ within. within) (cases_lt run.to next.to)
      where
        missing : InRuns run.to (run ∷ more) → ⊥
        missing (inl h) = omega (arith, h.1)
        missing (inr later) = omega (arith, least (run.to + 1) run.to more rising later)

    other : (k : ℕ) (run : Run) (more : List Run) → run.to ≤ k → InRuns k (run ∷ more) → InRuns k more
    other k run more past (inl h) = absurd (omega (arith, h.1))
    other k run more past (inr later) = later

pub stand : RunsStand
stand row =
    let whole = from 0 row in
    let is : RunsOf row (runs row) = record { rising = whole.rising; each = λ k held. subst (λ j. InRuns j (runs row)) (omega arith) (whole.each k held); only = λ k among. subst (λ j. get_or row j false ≡ true) (omega arith) (whole.only k among).1 } in
    (is, λ others other. one_list 0 0 others (runs row) other.rising is.rising (λ k among. is.each k (other.only k among)) (λ k among. other.each k (is.only k among)))
