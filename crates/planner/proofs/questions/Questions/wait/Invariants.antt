use Rattle.planner.proofs.Waits.{Waited}
use Rattle.planner.proofs.questions.Questions.wait.Given as goal

abbrev pub invariant-loop-slot : goal.invariant-loop-slot
invariant-loop-slot g l = Waited ((g.Self.Questions.shown l.self).holds l.number) l.slot l.wait l.last
