use Rattle.std.proofs.Common.{◌-◌, ◌≤◌, length}
use Rattle.slotplan.proofs.read_script.Given as goal

abbrev pub invariant-loop-count : goal.invariant-loop-count
invariant-loop-count l = l.count ≤ length l.initial.room

abbrev pub decreases-loop-count : goal.decreases-loop-count
decreases-loop-count l = length l.initial.room - l.count
