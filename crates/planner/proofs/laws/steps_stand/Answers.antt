use Rattle.planner.proofs.Steps.{steps_stand}
use Rattle.planner.proofs.laws.steps_stand.Goals as goal

pub returns : goal.returns
returns c = steps_stand
