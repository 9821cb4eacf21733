use Rattle.std.proofs.Common.{sym, subst, rules}
use Rattle.planner.specs.Outcomes.{Performed}
use Rattle.planner.proofs.LawHolds.{law_stands}
use Rattle.planner.proofs.performing.perform.Goals as goal

pub returns-in-Resting : goal.returns-in-Resting
returns-in-Resting g c =
    record { performed = subst (λ p. Performed g.F.Fabric.meaning p c.args.call c.perform_resting.result) (sym c.in-Resting.is) (search (rules, c.perform_resting.ensures.performed)); fitted = search (rules, c.perform_resting.ensures.fitted); law = law_stands }

pub returns-in-Running : goal.returns-in-Running
returns-in-Running g c =
    record { performed = subst (λ p. Performed g.F.Fabric.meaning p c.args.call c.perform_running.result) (sym c.in-Running.is) (search (rules, c.perform_running.ensures.performed)); fitted = search (rules, c.perform_running.ensures.fitted); law = law_stands }
