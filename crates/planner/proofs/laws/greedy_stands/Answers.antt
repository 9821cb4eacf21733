use Rattle.planner.proofs.Runs.{greedy_stands}
use Rattle.planner.proofs.laws.greedy_stands.Goals as goal

pub returns : goal.returns
returns c = greedy_stands
