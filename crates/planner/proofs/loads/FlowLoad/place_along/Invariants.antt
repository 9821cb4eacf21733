use Rattle.std.proofs.Common.{◌≡◌, ℕ, reverse}
use Rattle.planner.specs.FlowOrders.{numbers}
use Rattle.planner.specs.FlowSets.{members}
use Rattle.planner.specs.Loads.{load_of}
use Rattle.planner.specs.Orders.{has}
use Rattle.planner.specs.Placings.{PlacedAlong}
use Rattle.planner.specs.Tables.{holds}
use Rattle.planner.proofs.loads.FlowLoad.place_along.Given as goal

-- the flows so far, from the end, are placed
abbrev pub invariant-loop-flow : goal.invariant-loop-flow
invariant-loop-flow l = PlacedAlong (load_of l.self.overlaps l.self.demands l.self.period) (numbers (reverse l.yielded)) (holds l.table) × ((g : ℕ) → members l.placed g ≡ has (numbers (reverse l.yielded)) g)
