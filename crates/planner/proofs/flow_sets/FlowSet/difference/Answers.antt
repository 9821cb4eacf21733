use Rattle.std.proofs.Common.{◌^◌, ◌<◌, rules}
use Rattle.planner.proofs.Bits.{bit_without}
use Rattle.planner.proofs.flow_sets.FlowSet.difference.Goals as goal

pub returns : goal.returns
returns c =
    let l : c.args.self.0 < 2 ^ 64 = search rules in
    let m : c.args.other.0 < 2 ^ 64 = search rules in
    λ k. bit_without 64 c.args.self.0 c.args.other.0 k l m
