use Rattle.planner.proofs.Bits.{bit_insert}
use Rattle.planner.proofs.flow_sets.FlowSet.insert.Goals as goal

pub returns : goal.returns
returns c = λ k. bit_insert c.args.self.now.0 c.args.flow.number k c.args.flow.below
