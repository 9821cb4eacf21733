use Rattle.std.proofs.Common.{◌^◌, ◌<◌, sym, refl, subst, arith, rules}
use Rattle.planner.specs.FlowOrders.{listed}
use Rattle.planner.specs.FlowSets.{members}
use Rattle.planner.specs.Groups.{overlapping}
use Rattle.planner.proofs.Choices.{Took}
use Rattle.planner.proofs.Groups.{members_below}
use Rattle.planner.proofs.Remainders.{some_member, one_fewer, took_more, took_within, took_chosen, took_remains}
use Rattle.planner.proofs.Totals.{count_le, total_without}
use Rattle.planner.proofs.orders.chosen_order.Goals as goal

pub loop-flow-init : goal.loop-flow-init
loop-flow-init c =
    let p = members c.args.flows in
    let most = count_le p 64 in
    (subst (λ xs. Took (overlapping c.args.overlaps.now.groups) p xs p) (sym c.empty-order.ensures.0) refl, omega arith)

pub put_first-requires : goal.put_first-requires
put_first-requires c =
    let last = c.in-Some.ensures in
    let some = total_without (λ _. 1) (members c.loop-flow.rest) c.in-Some.flow.number 64 c.in-Some.flow.below last.0.0 in
    omega arith

pub loop-flow-smaller : goal.loop-flow-smaller
loop-flow-smaller c =
    let last = c.in-Some.ensures in
    let fewer = one_fewer (members c.loop-flow.rest) (members c.remove.new.self) c.in-Some.flow.number c.remove.ensures 64 c.in-Some.flow.below last.0.0 in
    omega arith

pub loop-flow-preserved : goal.loop-flow-preserved
loop-flow-preserved c =
    let ov = overlapping c.args.overlaps.now.groups in
    let q = members c.loop-flow.rest in
    let r = members c.remove.new.self in
    let f = c.in-Some.flow.number in
    let last = c.in-Some.ensures in
    let fewer = one_fewer q r f c.remove.ensures 64 c.in-Some.flow.below last.0.0 in (
      took_more q r f c.remove.ensures ov (members c.args.flows) (listed c.loop-flow.order) (listed c.put_first.new.self)
          c.loop-flow.invariant.0 last c.put_first.ensures.0,
      omega arith,
    )

pub returns-then-is_empty : goal.returns-then-is_empty
returns-then-is_empty c =
    let fits : c.args.flows.0 < 2 ^ 64 = search rules in
    took_chosen (overlapping c.args.overlaps.now.groups) 64 (members c.args.flows) (listed c.loop-flow.order) (members c.loop-flow.rest)
    (members_below c.args.flows fits) c.loop-flow.invariant.0 (c.if-is_empty.ensures.0 refl)

pub returns-else-is_empty : goal.returns-else-is_empty
returns-else-is_empty c =
    let fits : c.args.flows.0 < 2 ^ 64 = search rules in
    let q = members c.loop-flow.rest in
    let below = members_below c.args.flows fits in
    let left = took_within (overlapping c.args.overlaps.now.groups) (members c.args.flows) (listed c.loop-flow.order) q c.loop-flow.invariant.0 in
    took_remains (overlapping c.args.overlaps.now.groups) 64 (members c.args.flows) (listed c.loop-flow.order) q
    (members_below c.args.flows fits) c.loop-flow.invariant.0 (some_member 64 q c.is_empty.result (λ f in'. below f (left f in')) c.is_empty.ensures.1 c.if-is_empty.false) c.in_default.ensures
