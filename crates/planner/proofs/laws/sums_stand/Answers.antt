use Rattle.planner.proofs.Held.{sums_stand}
use Rattle.planner.proofs.laws.sums_stand.Goals as goal

pub returns : goal.returns
returns c = sums_stand
