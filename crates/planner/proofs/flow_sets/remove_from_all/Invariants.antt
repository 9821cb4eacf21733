use Rattle.std.proofs.Common.{◌≡◌, ℕ, false, cond, eqb, ltb, get_or}
use Rattle.planner.specs.FlowSets.{members}
use Rattle.planner.proofs.flow_sets.remove_from_all.Given as goal

-- the sets that the loop has passed are without the flow, and the others as they were
abbrev pub invariant-loop-set : goal.invariant-loop-set
invariant-loop-set l = (i k : ℕ) → members (get_or l.sets i (record { 0 = 0 })) k ≡ cond (ltb i l.set-index) (cond (eqb k l.flow.number) false (members (get_or l.initial.sets i (record { 0 = 0 })) k)) (members (get_or l.initial.sets i (record { 0 = 0 })) k)
