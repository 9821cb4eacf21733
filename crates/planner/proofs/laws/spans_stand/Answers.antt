use Rattle.planner.proofs.Spans.{spans_stand}
use Rattle.planner.proofs.laws.spans_stand.Goals as goal

pub returns : goal.returns
returns c = spans_stand
