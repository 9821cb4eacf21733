-- The numbers by which a plan's refusals are known, each with its values: a group of flows is a 64-bit number.
use Rattle.std.specs.Prelude.{ℕ, List, [], ◌∷◌}
use Rattle.planner.specs.declared.plan_faults.PlanFault.{PlanFault}
use Rattle.planner.specs.declared.unplaced.Unplaced.{Unplaced}
use Rattle.planner.specs.declared.unplaced.Unplaced.TheVariants as unplaced
use Rattle.planner.specs.declared.plan_faults.PlanFault.TheVariants.{BadPeriod, BadNumber, NoDemand, NumberTaken, NoRoute, DemandAbovePeriod, TooFewSlots, NotBooked, NoOrder, NoPlacing}

abbrev pub numbered : PlanFault → ℕ × List ℕ
numbered BadPeriod = (1, [])
numbered BadNumber = (4, [])
numbered NoDemand = (5, [])
numbered NumberTaken = (11, [])
numbered NoRoute = (12, [])
numbered DemandAbovePeriod = (13, [])
numbered TooFewSlots = (14, [])
numbered NotBooked = (15, [])
numbered (NoOrder group) = (16, group.0 ∷ [])
numbered (NoPlacing group) = (17, group.0 ∷ [])

-- the refusal of flows that are not placed
abbrev pub fault_of : Unplaced → PlanFault
fault_of (unplaced.NoOrder group) = NoOrder group
fault_of (unplaced.NoPlacing group) = NoPlacing group
