use Rattle.std.proofs.Common.{◌≡◌, ℕ, Bool, not, cond, length, take, get_or, sym, ap, ◌∙◌, arith, rules}
use Rattle.std.proofs.lemmas.Bool.{cond-true, cond-false}
use Rattle.std.proofs.lemmas.List.{get_or-take, length-take}
use Rattle.planner.specs.declared.flow_sets.FlowSet.{FlowSet}
use Rattle.planner.specs.FlowSets.{members}
use Rattle.planner.specs.Slots.{count, free}
use Rattle.planner.specs.Tables.{holds}
use Rattle.planner.proofs.Totals.{total_start, total_more, count_le}
use Rattle.planner.proofs.Tables.{taken_is}
use Rattle.planner.proofs.slots.SlotTable.valid_count.Goals as goal
use Rattle.planner.proofs.slots.SlotTable.valid_count.Goals.{then-not-intersects, else-not-intersects}

pub loop-flows-init : goal.loop-flows-init
loop-flows-init c = sym (total_start (λ _. 1) (free (holds c.args.self.now) 64 (members c.args.beside)))

pub overflow_add-valid : goal.overflow_add-valid
overflow_add-valid c =
    let few = count_le (free (holds c.args.self.now) 64 (members c.args.beside)) c.loop-flows.flows-index in
    let short = length-take c.from.result c.args.self.now.slots in
    omega arith

pub loop-flows-preserved : goal.loop-flows-preserved
loop-flows-preserved c =
    let slots = c.args.self.now.slots in
    let k = members c.args.beside in
    let p : ℕ → Bool = free (holds c.args.self.now) 64 k in
    let m = c.loop-flows.flows-index in
    let rows = take c.from.result slots in
    let short = length-take c.from.result slots in
    let row : get_or rows m (record { 0 = 0 }) ≡ get_or slots m (record { 0 = 0 }) = get_or-take c.from.result slots m (record { 0 = 0 }) (omega arith) in
    let here : p m ≡ not c.intersects.result =
    ap (λ (x : FlowSet). free (λ g _. members x g) 64 k 0) (sym row)
    ∙ sym (ap not (taken_is (λ g _. members (get_or rows m (record { 0 = 0 })) g) 64 k 0 c.intersects.result c.intersects.ensures)) in
    let more = total_more (λ _. 1) p m in
    elim c.if-not-intersects.branch [
      | then-not-intersects w ↦ let one : ◌≡◌ {A = ℕ} (cond (p m) 1 0) 1 = cond-true (p m) 1 0 (here ∙ search rules) in omega arith
      | else-not-intersects w ↦ let none : ◌≡◌ {A = ℕ} (cond (p m) 1 0) 0 = cond-false (p m) 1 0 (here ∙ search rules) in omega arith
    ]

pub returns : goal.returns
returns c =
    let slots = c.args.self.now.slots in
    let all : length slots ≡ 255 = search rules in
    let short = length-take c.from.result slots in
    let whole : c.loop-flows.flows-index ≡ c.args.period = omega (arith, c.from.ensures) in
    c.loop-flows.invariant ∙ ap (count (free (holds c.args.self.now) 64 (members c.args.beside))) whole
