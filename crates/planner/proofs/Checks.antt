-- Checks in their order: what it means that they pass.
use Rattle.std.proofs.Common.{◌≡◌, ℕ, ◌≤◌, Bool, true, false, cond, not, leb, [], ◌∷◌, ◌++◌, is_some, Some, None, Option, refl, arith}
use Rattle.std.proofs.lemmas.Bool.{leb-true, not-true}
use Rattle.fabric.specs.Meaning.{Meaning}
use Rattle.planner.specs.declared.flows.Flow.{Flow}
use Rattle.planner.specs.Steps.{Checks, first_failing, Passes, booking_checks}

-- a check that passes, with the checks after it
passes_on : (b : Bool) (x : Option ℕ) (k : ℕ) → cond b x (Some k) ≡ None → (b ≡ true) × (x ≡ None)
passes_on true x k e = (refl, e)
passes_on false x k e = let z : ◌≡◌ {A = ℕ} 0 1 = cc in absurd (omega arith)

-- what the checks of a booking say if they pass
pub record MayBook (m : Meaning) (period : ℕ) (booked : ℕ → Option Flow) (n : ℕ) (f : Flow) : Type 0 where
  pub number : n ≤ 63
  pub some : 1 ≤ f.demand
  pub free : is_some (booked n) ≡ false
  pub routed : m.routed f.ends ≡ true
  pub within : f.demand ≤ period

pub may_book : (m : Meaning) (period : ℕ) (booked : ℕ → Option Flow) (n : ℕ) (f : Flow) → Passes (booking_checks m period booked n f) → MayBook m period booked n f
may_book m period booked n f pass =
    let a = passes_on (leb n 63) _ 4 pass in
    let b = passes_on (leb 1 f.demand) _ 5 a.1 in
    let c = passes_on (not (is_some (booked n))) _ 11 b.1 in
    let d = passes_on (m.routed f.ends) _ 12 c.1 in
    let e = passes_on (leb f.demand period) None 13 d.1 in
    record {
      number = leb-true n 63 a.0;
      some = leb-true 1 f.demand b.0;
      free = not-true (is_some (booked n)) c.0;
      routed = d.0;
      within = leb-true f.demand period e.0;
    }

-- more checks after some that pass, and after some that do not
pub after_passing : (cs ds : Checks) → Passes cs → first_failing (cs ++ ds) ≡ first_failing ds
after_passing [] ds pass = refl
after_passing ((k, true) ∷ cs) ds pass = after_passing cs ds pass
after_passing ((k, false) ∷ cs) ds pass = let z : ◌≡◌ {A = ℕ} 0 1 = cc in absurd (omega arith)

pub after_failing : (cs ds : Checks) (k : ℕ) → first_failing cs ≡ Some k → first_failing (cs ++ ds) ≡ Some k
after_failing [] ds k fails = let z : ◌≡◌ {A = ℕ} 0 1 = cc in absurd (omega arith)
after_failing ((j, true) ∷ cs) ds k fails = after_failing cs ds k fails
after_failing ((j, false) ∷ cs) ds k fails = fails

-- the first of checks that all pass
pub passes_first : (cs ds : Checks) → Passes (cs ++ ds) → Passes cs
passes_first [] ds pass = refl
passes_first ((k, true) ∷ cs) ds pass = passes_first cs ds pass
passes_first ((k, false) ∷ cs) ds pass = pass
