use Rattle.planner.proofs.Bits.{bit_of_and}
use Rattle.planner.proofs.flow_sets.FlowSet.intersection.Goals as goal

pub returns : goal.returns
returns c = λ k. bit_of_and c.args.self.0 c.args.other.0 k
