use Rattle.script.proofs.LineLists.{stand}
use Rattle.script.proofs.laws.lines_stand.Goals as goal

pub returns : goal.returns
returns c = stand
