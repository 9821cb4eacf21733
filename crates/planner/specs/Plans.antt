-- How the planning of a set of flows comes out.
use Rattle.std.specs.Prelude.{ℕ, Bool, ◌⊎◌, List}
use Rattle.planner.specs.Orders.{Below, Order, Chosen, Stuck}
use Rattle.planner.specs.Slots.{Load, Placing, Greedy, FallsShort}

-- the flows have no order
pub record Disordered (load : Load) (p : ℕ → Bool) : Type 0 where
  pub chosen : List ℕ
  pub stuck : Stuck load.overlap p chosen
  pub none : (xs : List ℕ) → Order load.overlap p xs → ⊥

-- they have, and are placed along it
pub record Placed (load : Load) (p : ℕ → Bool) : Type 0 where
  pub chosen : List ℕ
  pub chosen_is : Chosen load.overlap p chosen
  pub order : Order load.overlap p chosen
  pub table : ℕ → ℕ → Bool
  pub greedy : Greedy load table chosen
  pub placing : Placing load p table

-- they have, and there is no placing
pub record Overfull (load : Load) (p : ℕ → Bool) : Type 0 where
  pub chosen : List ℕ
  pub chosen_is : Chosen load.overlap p chosen
  pub order : Order load.overlap p chosen
  pub table : ℕ → ℕ → Bool
  pub short : FallsShort load table chosen
  pub none : (t : ℕ → ℕ → Bool) → Placing load p t → ⊥

abbrev pub PlansStand : Type 0
PlansStand = (load : Load) (p : ℕ → Bool) → Below load.flows p → Disordered load p ⊎ (Placed load p ⊎ Overfull load p)
