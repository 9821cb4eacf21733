-- What the questions about a plan mean.
use Rattle.std.specs.Prelude.{◌≡◌, ℕ, ◌+◌, ◌<◌, ◌≤◌, Bool, true, false, ◌⊎◌, Some, Option}
use Rattle.fabric.specs.Meaning.{Meaning}
use Rattle.planner.specs.declared.flows.Flow.{Flow}
use Rattle.planner.specs.Shown.{Shown}

-- what is booked under a number sends on a link: it is a flow, its route on the fabric crosses the link, and the slot is held
pub record SendsOn (m : Meaning) (of : Option Flow) (held : Bool) (link : ℕ) : Type 0 where
  pub flow : Flow
  pub booked : of ≡ Some flow
  pub crosses : m.crossed flow.ends link ≡ true
  pub holds : held ≡ true

-- the flow n sends on the link in the slot, whether the plan is running or not
abbrev pub Sends : Shown → ℕ → ℕ → ℕ → Type 0
Sends s n link slot = SendsOn s.meaning (s.booked n) (s.holds n slot) link

-- of the slots r, u is the next after s
pub record NextSlot (r : ℕ → Bool) (s u : ℕ) : Type 0 where
  pub later : s < u
  pub from : r s ≡ true
  pub to : r u ≡ true
  pub none_between : (x : ℕ) → s < x → x < u → r x ≡ false

-- d is the greatest distance from one of the slots r to the next within a period of m, and 0 if none has a next
pub record Wait (r : ℕ → Bool) (m d : ℕ) : Type 0 where
  pub bounds : (s u : ℕ) → NextSlot r s u → u < m → u ≤ s + d
  pub met : (d ≡ 0) ⊎ ((s : ℕ) × (u : ℕ) × NextSlot r s u × (u < m) × (u ≡ s + d))
