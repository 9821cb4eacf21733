use Rattle.std.proofs.Common.{◌^◌, ◌<◌, rules}
use Rattle.planner.proofs.Bits.{within_tells}
use Rattle.planner.proofs.flow_sets.FlowSet.subset.Goals as goal

pub returns : goal.returns
returns c =
    let l : c.args.self.0 < 2 ^ 64 = search rules in
    let m : c.args.other.0 < 2 ^ 64 = search rules in
    within_tells c.args.self.0 c.args.other.0 l m
