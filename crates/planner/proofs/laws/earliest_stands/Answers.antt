use Rattle.planner.proofs.Runs.{earliest_stands}
use Rattle.planner.proofs.laws.earliest_stands.Goals as goal

pub returns : goal.returns
returns c = earliest_stands
