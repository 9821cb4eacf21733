use Rattle.std.proofs.Common.{◌≡◌, ℕ, ◌<◌, ◌||◌, true, cond, eqb, get_or, reverse, sym, ap, ◌∙◌, subst, rules}
use Rattle.std.proofs.lemmas.List.{reverse-append, reverse-reverse, map-id}
use Rattle.std.proofs.lemmas.Result.{err_from_is_err_and}
use Rattle.std.proofs.lemmas.Iterator.Adapters.{YieldsList-from_rev_slice}
use Rattle.std.proofs.lemmas.Iterator.Consumers.{YieldsList-from_copied, YieldsList-turn, YieldsList-end, YieldsList-so_far}
use Rattle.planner.specs.FlowOrders.{numbers}
use Rattle.planner.specs.FlowSets.{members}
use Rattle.planner.specs.Loads.{load_of}
use Rattle.planner.specs.Orders.{plus}
use Rattle.planner.specs.Slots.{count, free, Given, rivals, Short}
use Rattle.planner.specs.Tables.{holds}
use Rattle.planner.specs.Placings.{Once, PlacedAlong}
use Rattle.planner.proofs.Along.{turn, numbers_below, once_end, rivals_are, plus_is, placed_more, short_at, fits_along, crowded_along}
use Rattle.planner.proofs.loads.FlowLoad.place_along.Goals as goal

pub give-requires : goal.give-requires
give-requires c =
    let runs = YieldsList-from_copied (YieldsList-from_rev_slice c.args.order.now cc) in
    let parts = turn c.args.order.now c.loop-flow.yielded c.in-Some.flow (YieldsList-so_far runs _ _ c.loop-flow.yielded_by) (YieldsList-turn runs _ _ c.loop-flow.yielded_by _ _ _ c.in-Some.is c.next.ensures.steps) in
    let out = once_end c.in-Some.flow.number (numbers (reverse c.loop-flow.yielded)) parts.0 (subst Once parts.1 c.requires) in
    λ s. c.loop-flow.invariant.0.others c.in-Some.flow.number s out

pub returns-in_err-map_err : goal.returns-in_err-map_err
returns-in_err-map_err c =
    let xs = numbers c.args.order.now in
    let es = numbers (reverse c.loop-flow.yielded) in
    let flow = c.in-Some.flow.number in
    let load = load_of c.args.self.now.overlaps c.args.self.now.demands c.args.self.now.period in
    let t = holds c.loop-flow.table in
    let k = members c.intersection-rivals.result in
    let told : count (free t 64 k) c.args.self.now.period < get_or c.args.self.now.demands c.from.result 0 = search (rules, c.give.ensures) in
    let with' : (g : ℕ) → members c.in_err-map_err.field-0.0 g ≡ cond (eqb g flow) true (k g) = search (rules, c.map_err.ensures) in
    let below = numbers_below c.args.order.now in
    let runs = YieldsList-from_copied (YieldsList-from_rev_slice c.args.order.now cc) in
    let parts = turn c.args.order.now c.loop-flow.yielded c.in-Some.flow (YieldsList-so_far runs _ _ c.loop-flow.yielded_by) (YieldsList-turn runs _ _ c.loop-flow.yielded_by _ _ _ c.in-Some.is c.next.ensures.steps) in
    let rivals-is = rivals_are load flow es (members c.loop-flow.placed) (members c.group.result) k c.loop-flow.invariant.1 c.group.ensures c.intersection-rivals.ensures in
    let few : Short load t flow es = subst (λ k. count (free t 64 k) c.args.self.now.period < load.demand flow) rivals-is (rw c.from.ensures at told) in
    let group_is : (g : ℕ) → members c.in_err-map_err.field-0.0 g ≡ plus (rivals load flow es) flow g = λ g. with' g ∙ plus_is (eqb g flow) (k g) ∙ ap (λ k. plus k flow g) rivals-is in
    let so = short_at load xs parts.0 flow es t (members c.in_err-map_err.field-0.0) parts.1 below c.loop-flow.invariant.0 few group_is in
    let p = err_from_is_err_and c.from_residual.result c.from_residual.ensures.1 in
    rw (p.1, p.2) (record { outcome = so; verdict = λ p order. crowded_along load p xs below order _ so })

pub loop-flow-preserved : goal.loop-flow-preserved
loop-flow-preserved c =
    let flow = c.in-Some.flow.number in
    let es = numbers (reverse c.loop-flow.yielded) in
    let load = load_of c.args.self.now.overlaps c.args.self.now.demands c.args.self.now.period in
    let t = holds c.loop-flow.table in
    let u = holds c.give.new.self in
    let k = members c.intersection-rivals.result in
    let given : Given t u 64 flow k (get_or c.args.self.now.demands c.from.result 0) c.args.self.now.period = search (rules, c.give.ensures) in
    let runs = YieldsList-from_copied (YieldsList-from_rev_slice c.args.order.now cc) in
    let parts = turn c.args.order.now c.loop-flow.yielded c.in-Some.flow (YieldsList-so_far runs _ _ c.loop-flow.yielded_by) (YieldsList-turn runs _ _ c.loop-flow.yielded_by _ _ _ c.in-Some.is c.next.ensures.steps) in
    let out = once_end flow es parts.0 (subst Once parts.1 c.requires) in
    let rivals-is = rivals_are load flow es (members c.loop-flow.placed) (members c.group.result) k c.loop-flow.invariant.1 c.group.ensures c.intersection-rivals.ensures in
    let new : Given t u 64 flow (rivals load flow es) (load.demand flow) c.args.self.now.period =
    subst (λ k. Given t u 64 flow k (load.demand flow) c.args.self.now.period) rivals-is (rw c.from.ensures at given) in
    rw (reverse-append c.loop-flow.yielded) (
      placed_more load t u flow es out c.loop-flow.invariant.0 new,
      λ g. c.insert.ensures g ∙ plus_is (eqb g flow) (members c.loop-flow.placed g) ∙ ap (λ b. eqb g flow || b) (c.loop-flow.invariant.1 g),
    )

pub returns : goal.returns
returns c =
    let xs = numbers c.args.order.now in
    let load = load_of c.args.self.now.overlaps c.args.self.now.demands c.args.self.now.period in
    let t = holds c.loop-flow.table in
    let runs = YieldsList-from_copied (YieldsList-from_rev_slice c.args.order.now cc) in
    let end = YieldsList-end runs _ _ c.loop-flow.yielded_by _ _ c.in-None.is c.next.ensures.steps in
    let all = ap reverse (sym (map-id c.loop-flow.yielded) ∙ end.0) ∙ reverse-reverse c.args.order.now in
    let so : PlacedAlong load xs t = subst (λ ys. PlacedAlong load (numbers ys) t) all c.loop-flow.invariant.0 in
    record { outcome = so; verdict = λ p order. fits_along load p xs (numbers_below c.args.order.now) order t so }
