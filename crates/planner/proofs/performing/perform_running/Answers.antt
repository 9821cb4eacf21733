use Rattle.std.proofs.Common.{true, refl}
use Rattle.planner.specs.Shown.{shows}
use Rattle.planner.proofs.LawHolds.{made}
use Rattle.planner.proofs.performing.perform_running.Goals as goal
use Rattle.planner.proofs.performing.perform_running.Goals.{in-Admit, in-Withdraw}

pub returns-in-Rest-clause-performed : goal.returns-in-Rest-clause-performed
returns-in-Rest-clause-performed g c = made (shows g.F.Fabric.meaning true c.args.plan) c.args.call _ _ _ c.in-Rest.is refl c.rest.ensures

pub returns-clause-performed : goal.returns-clause-performed
returns-clause-performed g c =
    let before = shows g.F.Fabric.meaning true c.args.plan in
    elim c.match-call.branch [
      | in-Admit w ↦ rw (w.plan-is, w.answer-is) (made before c.args.call _ _ _ w.in-Admit.is refl w.admit-answer.ensures)
      | in-Withdraw w ↦ rw (w.plan-is, w.answer-is) (made before c.args.call _ _ _ w.in-Withdraw.is refl (w.withdraw-answer.ensures true))
    ]
