use Rattle.std.proofs.Common.{false, refl}
use Rattle.planner.specs.Shown.{shows}
use Rattle.planner.proofs.LawHolds.{made}
use Rattle.planner.proofs.performing.perform_resting.Goals as goal
use Rattle.planner.proofs.performing.perform_resting.Goals.{in-Enrol, in-Withdraw, in-Replan}

pub returns-in-Start-clause-performed : goal.returns-in-Start-clause-performed
returns-in-Start-clause-performed g c = made (shows g.F.Fabric.meaning false c.args.plan) c.args.call _ _ _ c.in-Start.is refl c.start.ensures

pub returns-in-Fit-clause-performed : goal.returns-in-Fit-clause-performed
returns-in-Fit-clause-performed g c = (c.in-Fit.«module», c.in-Fit.is, made (shows g.F.Fabric.meaning false c.args.plan) c.args.call _ _ _ c.in-Fit.is refl c.fit.ensures)

pub returns-clause-performed : goal.returns-clause-performed
returns-clause-performed g c =
    let before = shows g.F.Fabric.meaning false c.args.plan in
    elim c.match-call.branch [
      | in-Enrol w ↦ rw (w.plan-is, w.answer-is) (made before c.args.call _ _ _ w.in-Enrol.is refl w.enrol-answer.ensures)
      | in-Withdraw w ↦ rw (w.plan-is, w.answer-is) (made before c.args.call _ _ _ w.in-Withdraw.is refl (w.withdraw-answer.ensures false))
      | in-Replan w ↦ rw (w.plan-is, w.answer-is) (made before c.args.call _ _ _ w.in-Replan.is refl w.replan-answer.ensures)
    ]
