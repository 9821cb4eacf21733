use Rattle.std.proofs.Common.{false, cond, eqb, ltb, get_or, sym, ◌∙◌, ⊎_elim, arith}
use Rattle.std.proofs.lemmas.Bool.{cases_lt, cond-true, cond-false, lt-ltb, le-ltb}
use Rattle.planner.specs.FlowSets.{members}
use Rattle.planner.proofs.Tables.{past_end, cond_same, swept}
use Rattle.planner.proofs.flow_sets.remove_from_all.Goals as goal

pub loop-set-init : goal.loop-set-init
loop-set-init c = λ i k.
    let was = members (get_or c.args.sets.now i (record { 0 = 0 })) k in
    sym (cond-false (ltb i 0) (cond (eqb k c.args.flow.number) false was) was (le-ltb i 0 (omega arith)))

pub loop-set-preserved : goal.loop-set-preserved
loop-set-preserved c =
    swept c.loop-set.sets c.loop-set.set-index c.remove.new.self (omega arith)
    (λ i k. members (get_or c.args.sets.now i (record { 0 = 0 })) k) c.args.flow.number c.loop-set.invariant c.remove.ensures

pub returns : goal.returns
returns c = λ i k.
    let was = members (get_or c.args.sets.now i (record { 0 = 0 })) k in
    let at = c.loop-set.set-index in
    c.loop-set.invariant i k ∙ ⊎_elim
    (λ here. cond-true (ltb i at) (cond (eqb k c.args.flow.number) false was) was (lt-ltb i at here))
    (λ past. cond_same (ltb i at) (eqb k c.args.flow.number) was (past_end c.args.sets.now i k (omega arith)))
    (cases_lt i at)
