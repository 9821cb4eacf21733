use Rattle.planner.proofs.Planned.{plans_stand}
use Rattle.planner.proofs.laws.plans_stand.Goals as goal

pub returns : goal.returns
returns c = plans_stand
