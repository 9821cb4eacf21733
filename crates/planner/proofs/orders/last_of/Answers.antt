use Rattle.std.proofs.Common.{◌≡◌, true, arith}
use Rattle.std.proofs.lemmas.Bool.{both_ways}
use Rattle.planner.specs.FlowSets.{members}
use Rattle.planner.specs.Groups.{overlapping}
use Rattle.planner.specs.Orders.{MayComeLast}
use Rattle.planner.proofs.Lasts.{OverlapsRest, may_last, not_last, still_in, passed}
use Rattle.planner.proofs.Remainders.{one_fewer}
use Rattle.planner.proofs.orders.last_of.Goals as goal

pub search-init : goal.search-init
search-init c = (λ f in'. in', λ f out last. both_ways (members c.args.flows f) out last.0)

pub search-smaller : goal.search-smaller
search-smaller c =
    let q = members c.search.candidates in
    let flow = c.in_ok-flow.flow in
    let fewer = one_fewer q (members c.take_highest.new.self) flow.number c.in_ok-flow.ensures.2 64 flow.below c.in_ok-flow.ensures.0 in
    omega arith

pub search-preserved : goal.search-preserved
search-preserved c =
    let ov = overlapping c.args.overlaps.now.groups in
    let p = members c.args.flows in
    let q = members c.search.candidates in
    let rest = members c.take_highest.new.self in
    let b = members c.intersection-beside.result in
    let f = c.in_ok-flow.flow.number in
    let g = c.in-Some.other.number in
    let none = not_last ov c.args.overlaps.now.apart p (members c.group.result) b f c.group.ensures c.intersection-beside.ensures
    g (c.loop-other.invariant.0 g c.in-Some.ensures.0) (λ all. both_ways c.overlaps_rest.result c.if-not-overlaps_rest.true (c.overlaps_rest.ensures.1 all)) in
    (λ k in'. c.search.invariant.0 k (still_in q rest f c.in_ok-flow.ensures.2 k in'), passed q rest f c.in_ok-flow.ensures.2 (λ k. MayComeLast ov p k → ⊥) c.search.invariant.1 none)

pub loop-other-smaller : goal.loop-other-smaller
loop-other-smaller c =
    let q = members c.loop-other.others in
    let other = c.in-Some.other in
    let fewer = one_fewer q (members c.take_highest-in-loop-other.new.self) other.number c.in-Some.ensures.2 64 other.below c.in-Some.ensures.0 in
    omega arith

pub loop-other-init : goal.loop-other-init
loop-other-init c = (λ f in'. in', λ f out in'. absurd (both_ways (members c.intersection-beside.result f) out in'))

pub loop-other-preserved : goal.loop-other-preserved
loop-other-preserved c =
    let ov = overlapping c.args.overlaps.now.groups in
    let b = members c.intersection-beside.result in
    let q = members c.loop-other.others in
    let rest = members c.take_highest-in-loop-other.new.self in
    let g = c.in-Some.other.number in
    let told = c.in-Some.ensures in (
      λ k in'. c.loop-other.invariant.0 k (still_in q rest g told.2 k in'),
      passed q rest g told.2 (λ k. b k ≡ true → OverlapsRest ov b k) c.loop-other.invariant.1 (λ _. c.overlaps_rest.ensures.0 c.if-not-overlaps_rest.false),
    )

pub returns : goal.returns
returns c =
    let ov = overlapping c.args.overlaps.now.groups in
    let p = members c.args.flows in
    let b = members c.intersection-beside.result in
    let f = c.in_ok-flow.flow.number in (
      may_last ov c.args.overlaps.now.apart p (members c.group.result) b f c.group.ensures c.intersection-beside.ensures
          (c.search.invariant.0 f c.in_ok-flow.ensures.0)
          (λ g. c.loop-other.invariant.1 g (c.in_default.ensures.0 g)),
      λ g above. c.search.invariant.1 g (c.in_ok-flow.ensures.1 g above),
    )
