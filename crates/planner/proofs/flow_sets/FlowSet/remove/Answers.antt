use Rattle.std.proofs.Common.{rules}
use Rattle.planner.proofs.Bits.{bit_remove}
use Rattle.planner.proofs.flow_sets.FlowSet.remove.Goals as goal

pub returns : goal.returns
returns c = λ k. bit_remove c.args.self.now.0 c.args.flow.number k (search rules) c.args.flow.below
