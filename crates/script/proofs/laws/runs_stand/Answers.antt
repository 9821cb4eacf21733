use Rattle.script.proofs.RunLaws.{stand}
use Rattle.script.proofs.laws.runs_stand.Goals as goal

pub returns : goal.returns
returns c = stand
