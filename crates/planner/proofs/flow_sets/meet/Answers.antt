use Rattle.std.proofs.Common.{◌^◌, ◌<◌, rules}
use Rattle.planner.proofs.Bits.{meet_tells}
use Rattle.planner.proofs.flow_sets.meet.Goals as goal

pub returns : goal.returns
returns c =
    let fits : c.args.mine < 2 ^ 64 = search rules in
    meet_tells c.args.mine c.args.theirs fits
