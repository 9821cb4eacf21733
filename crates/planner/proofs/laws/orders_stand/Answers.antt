use Rattle.planner.proofs.Choices.{orders_stand}
use Rattle.planner.proofs.laws.orders_stand.Goals as goal

pub returns : goal.returns
returns c = orders_stand
