use Rattle.std.proofs.Common.{◌+◌, ◌≤◌}
use Rattle.planner.specs.FlowOrders.{listed}
use Rattle.planner.specs.FlowSets.{members}
use Rattle.planner.specs.Groups.{overlapping}
use Rattle.planner.specs.Slots.{count}
use Rattle.planner.proofs.Choices.{Took}
use Rattle.planner.proofs.orders.chosen_order.Given as goal

-- the order has what was chosen, and there is room for the rest
abbrev pub invariant-loop-flow : goal.invariant-loop-flow
invariant-loop-flow l =
    Took (overlapping l.overlaps.groups) (members l.initial.rest) (listed l.order) (members l.rest)
    × (l.order.count + count (members l.rest) 64 ≤ 64)

abbrev pub decreases-loop-flow : goal.decreases-loop-flow
decreases-loop-flow l = count (members l.rest) 64
