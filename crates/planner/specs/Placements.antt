-- What a re-plan leaves: a placing along the chosen order, or a refusal with its number and its group.
use Rattle.std.specs.Prelude.{◌≡◌, ℕ, Bool, ◌⊎◌, List, [], ◌∷◌}
use Rattle.planner.specs.declared.plan_faults.PlanFault.{PlanFault}
use Rattle.planner.specs.FlowSets.{bit}
use Rattle.planner.specs.Orders.{Order, Chosen, Remains}
use Rattle.planner.specs.PlanFaults.{numbered}
use Rattle.planner.specs.Placings.{PlacedAlong, ShortAlong, FitsAlong, Crowded}
use Rattle.planner.specs.Slots.{Load}

-- the flows of p have a chosen order, and are placed in t along it
pub record PlacedInOrder (load : Load) (p : ℕ → Bool) (t : ℕ → ℕ → Bool) : Type 0 where
  pub chosen : List ℕ
  pub chosen_is : Chosen load.overlap p chosen
  pub order : Order load.overlap p chosen
  pub placed : PlacedAlong load chosen t
  pub fits : FitsAlong load p chosen t

-- the flows of p have a chosen order, along which a flow is short: with it the group cannot be placed
pub record Unplaceable (load : Load) (p group : ℕ → Bool) : Type 0 where
  pub chosen : List ℕ
  pub chosen_is : Chosen load.overlap p chosen
  pub order : Order load.overlap p chosen
  pub short : ShortAlong load chosen group
  pub crowded : Crowded load p group

-- 16 with the flows that remain when none may come last, or 17 with flows that cannot be placed together
abbrev pub Unplanned : Load → (ℕ → Bool) → PlanFault → Type 0
Unplanned load p fault =
    (group : ℕ) ×
    (((numbered fault ≡ (16, group ∷ [])) × Remains load.overlap p (bit group))
    ⊎ ((numbered fault ≡ (17, group ∷ [])) × Unplaceable load p (bit group)))
