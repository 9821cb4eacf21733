use Rattle.std.proofs.Common.{◌^◌, ◌<◌, rules}
use Rattle.planner.proofs.Bits.{empty_tells}
use Rattle.planner.proofs.flow_sets.FlowSet.is_empty.Goals as goal

pub returns : goal.returns
returns c =
    let l : c.args.self.0 < 2 ^ 64 = search rules in
    empty_tells c.args.self.0 l
