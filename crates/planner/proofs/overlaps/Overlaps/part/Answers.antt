use Rattle.std.proofs.Common.{◌<◌, length, rules}
use Rattle.planner.specs.Groups.{overlapping}
use Rattle.planner.proofs.Joins.{parted, parted_mutual}
use Rattle.planner.proofs.overlaps.Overlaps.part.Goals as goal

pub invariant_of-self : goal.invariant_of-self
invariant_of-self c =
    let old = c.args.self.now.groups in
    let groups = c.remove_from_all.new.sets in
    let l : c.args.flow.number < length groups = search rules in
    let new = parted groups old c.args.flow.number c.empty.result l c.empty.ensures c.remove_from_all.ensures in
    let kept = parted_mutual c.args.flow.number (overlapping old) _ c.args.self.now.symmetric c.args.self.now.apart new in
    rw c.from.ensures (record { symmetric = kept.symmetric; apart = kept.apart })
