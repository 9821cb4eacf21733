use Rattle.std.proofs.Common.{◌≡◌, ℕ, ◌+◌, ◌<◌, ◌≤◌, ◌⊎◌, ◌++◌, Bool, true, not, cond, eqb, List, length, get_or, set, take, drop, sym, refl, ap, ◌∙◌, subst, subst₂, inl, inr, arith, rules}
use mathlib.Core.Path.{fun_ext}
use Rattle.std.proofs.lemmas.List.{take-append-drop, get_or_append_left, set-append_left, set-get_or, length-append, length-take}
use Rattle.planner.specs.declared.flow_sets.FlowSet.{FlowSet}
use Rattle.planner.specs.declared.slot_requests.SlotRequest.{SlotRequest}
use Rattle.planner.specs.FlowSets.{members}
use Rattle.planner.specs.Slots.{count, free, Given}
use Rattle.planner.specs.Tables.{holds}
use Rattle.planner.proofs.Sets.{tells_apart}
use Rattle.planner.proofs.Runs.{free_same}
use Rattle.planner.proofs.Tables.{taken_is, marked}
use Rattle.planner.proofs.Giving.{Giving, giving_start, giving_take, giving_pass, giving_done}
use Rattle.planner.proofs.slots.SlotTable.take_earliest.Goals as goal
use Rattle.planner.proofs.slots.SlotTable.take_earliest.Goals.{then-not-intersects, else-not-intersects}

-- what a list of rows holds
abbrev rows : List FlowSet → ℕ → ℕ → Bool
rows xs = holds (record { slots = xs })

-- the rows after the loop, of which the last that was lent may be set to what it is
given : (slots items : List FlowSet) (m left n period : ℕ) → n ≡ period → (request : SlotRequest) (ys : List FlowSet) → ys ≡ items →
    Giving (rows slots) (rows (items ++ drop period slots)) request.flow.number (free (rows slots) 64 (members request.beside)) request.demand m left → m ≤ period →
    request.demand ≤ count (free (rows slots) 64 (members request.beside)) period → (left ≡ 0) ⊎ (m ≡ period) →
    Given (rows slots) (rows (ys ++ drop n slots)) 64 request.flow.number (members request.beside) request.demand period
given slots items m left n period is request ys same so l enough ends =
    subst₂ (λ zs j. Given (rows slots) (rows (zs ++ drop j slots)) 64 request.flow.number (members request.beside) request.demand period) (sym same) (sym is)
    (giving_done (rows slots) (rows (items ++ drop period slots)) 64 request.flow.number (members request.beside) request.demand m left period so l enough ends)

pub loop-flows-init : goal.loop-flows-init
loop-flows-init c =
    let slots = c.args.self.now.slots in
    let whole : slots ≡ take c.from.result slots ++ drop c.args.request.period slots = sym (take-append-drop c.from.result slots) ∙ ap (λ (n : ℕ). take c.from.result slots ++ drop n slots) c.from.ensures in
    subst (λ xs. Giving (rows slots) (rows xs) c.args.request.flow.number (free (rows slots) 64 (members c.args.request.beside)) c.args.request.demand 0 c.args.request.demand) whole
    (giving_start (rows slots) c.args.request.flow.number (free (rows slots) 64 (members c.args.request.beside)) c.args.request.demand c.requires.holds_nothing)

pub loop-flows-preserved : goal.loop-flows-preserved
loop-flows-preserved c =
    let slots = c.args.self.now.slots in
    let rest = drop c.args.request.period slots in
    let items = c.loop-flows.flows-items in
    let xs = items ++ rest in
    let t = rows slots in
    let u = rows xs in
    let k = members c.args.request.beside in
    let p : ℕ → Bool = free t 64 k in
    let m = c.loop-flows.flows-index in
    let f = c.args.request.flow.number in
    let d = c.args.request.demand in
    let so = c.loop-flows.invariant in
    let room : m < length items = omega (arith, c.loop-flows.auto.flows-items) in
    let row : get_or xs m (record { 0 = 0 }) ≡ get_or items m (record { 0 = 0 }) = get_or_append_left items rest (record { 0 = 0 }) m room in
    -- the flow is not of `beside`, so the valid slots are what they were
    let same : free u 64 k ≡ p = free_same u t 64 k (λ g in'. fun_ext (λ s. so.others g s (tells_apart k g c.args.request.flow.number in' c.args.request.not_beside))) in
    let here : p m ≡ not c.intersects.result =
    ap (λ q. q m) (sym same) ∙ ap (λ (x : FlowSet). free (λ g _. members x g) 64 k 0) row
    ∙ sym (ap not (taken_is (λ g _. members (get_or items m (record { 0 = 0 })) g) 64 k 0 c.intersects.result c.intersects.ensures)) in
    elim c.if-not-intersects.branch [
      | then-not-intersects w ↦
          let before : c.loop-flows.left ≡ c.if-not-intersects.left + 1 = omega arith in
          let new : c.if-not-intersects.flows-items ++ rest ≡ set xs m w.insert.new.self = ap (λ ys. ys ++ rest) w.flows-items-is ∙ sym (set-append_left items rest m _ room) in
          giving_take t f p d u (rows (c.if-not-intersects.flows-items ++ rest)) m c.if-not-intersects.left (subst (λ left. Giving t u f p d m left) before so)
          (here ∙ search rules)
          (λ g s. ap (λ ys. rows ys g s) new ∙ marked xs m w.insert.new.self (omega (arith, length-append items rest)) f (λ g. w.insert.ensures g ∙ ap (λ (x : FlowSet). cond (eqb g f) true (members x g)) (sym row)) g s)
      | else-not-intersects w ↦
          subst₂ (λ ys left. Giving t (rows (ys ++ rest)) f p d (m + 1) left) (sym (w.flows-items-is ∙ set-get_or items m (record { 0 = 0 }))) (sym w.left-is)
          (giving_pass t f p d u m c.loop-flows.left so (here ∙ search rules))
    ]

pub returns-then-left-eq0 : goal.returns-then-left-eq0
returns-then-left-eq0 c =
    let slots = c.args.self.now.slots in
    let items = c.loop-flows.flows-items in
    let at = c.loop-flows.flows-index in
    let short = length-take c.from.result slots in
    given slots items at c.loop-flows.left c.from.result c.args.request.period c.from.ensures c.args.request (set items at (get_or items at (record { 0 = 0 }))) (set-get_or items at (record { 0 = 0 }))
    c.loop-flows.invariant (omega arith) c.requires.enough (inl c.if-left-eq0.true)

pub returns-after-loop-flows : goal.returns-after-loop-flows
returns-after-loop-flows c =
    let slots = c.args.self.now.slots in
    let items = c.loop-flows.flows-items in
    let all : length slots ≡ 255 = search rules in
    let short = length-take c.from.result slots in
    given slots items c.loop-flows.flows-index c.loop-flows.left c.from.result c.args.request.period c.from.ensures c.args.request items refl
    c.loop-flows.invariant (omega (arith, c.loop-flows.auto.flows-items, c.loop-flows.auto.flows-index-end)) c.requires.enough (inr (omega (arith, c.loop-flows.auto.flows-index-end)))
