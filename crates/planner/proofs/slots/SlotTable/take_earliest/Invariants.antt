use Rattle.std.proofs.Common.{◌++◌, drop}
use Rattle.planner.specs.FlowSets.{members}
use Rattle.planner.specs.Slots.{free}
use Rattle.planner.specs.Tables.{holds}
use Rattle.planner.proofs.Giving.{Giving}
use Rattle.planner.proofs.slots.SlotTable.take_earliest.Given as goal

-- the rows of the period stand before those past it, which are as they were
abbrev pub invariant-loop-flows : goal.invariant-loop-flows
invariant-loop-flows l =
    Giving (holds l.fn.self) (holds (record { slots = l.flows-items ++ drop l.request.period l.fn.self.slots })) l.request.flow.number
    (free (holds l.fn.self) 64 (members l.request.beside)) l.request.demand l.flows-index l.left
