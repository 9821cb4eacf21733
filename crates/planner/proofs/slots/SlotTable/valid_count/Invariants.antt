use Rattle.std.proofs.Common.{◌≡◌}
use Rattle.planner.specs.FlowSets.{members}
use Rattle.planner.specs.Slots.{count, free}
use Rattle.planner.specs.Tables.{holds}
use Rattle.planner.proofs.slots.SlotTable.valid_count.Given as goal

-- the slots so far are counted
abbrev pub invariant-loop-flows : goal.invariant-loop-flows
invariant-loop-flows l = l.valid ≡ count (free (holds l.self) 64 (members l.beside)) l.flows-index
