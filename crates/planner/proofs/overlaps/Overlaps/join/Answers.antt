use Rattle.std.proofs.Common.{◌<◌, length, rules}
use Rattle.planner.specs.Groups.{overlapping}
use Rattle.planner.proofs.Joins.{joined, joined_mutual}
use Rattle.planner.proofs.overlaps.Overlaps.join.Goals as goal

pub invariant_of-self : goal.invariant_of-self
invariant_of-self c =
    let groups = c.args.self.now.groups in
    let one = c.args.one.number in
    let other = c.args.other.number in
    let l : one < length groups = search rules in
    let m : other < length groups = search rules in
    let x_is = rw c.from.ensures at c.insert.ensures in
    let y_is = rw (c.from.ensures, c.from-2.ensures) at c.insert-2.ensures in
    let new = joined groups one other c.insert.new.self c.insert-2.new.self l m c.requires x_is y_is in
    let kept = joined_mutual one other (overlapping groups) _ c.requires c.args.self.now.symmetric c.args.self.now.apart new in
    rw (c.from.ensures, c.from-2.ensures) (record { symmetric = kept.symmetric; apart = kept.apart })

pub returns : goal.returns
returns c =
    let groups = c.args.self.now.groups in
    let one = c.args.one.number in
    let other = c.args.other.number in
    let l : one < length groups = search rules in
    let m : other < length groups = search rules in
    let x_is = rw c.from.ensures at c.insert.ensures in
    let y_is = rw (c.from.ensures, c.from-2.ensures) at c.insert-2.ensures in
    rw (c.from.ensures, c.from-2.ensures) (joined groups one other c.insert.new.self c.insert-2.new.self l m c.requires x_is y_is)
