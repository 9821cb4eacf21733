use Rattle.std.proofs.Common.{◌≡◌, ◌+◌, Some, sym, ap, ◌∙◌, subst, subst₂, arith, rules}
use Rattle.planner.specs.Questions.{Wait}
use Rattle.planner.proofs.Waits.{Waited, waited_none, waited_pass, waited_take}
use Rattle.planner.proofs.questions.Questions.wait.Goals as goal
use Rattle.planner.proofs.questions.Questions.wait.Goals.{then-holds, else-holds}

pub loop-slot-init : goal.loop-slot-init
loop-slot-init g c = waited_none ((g.Self.Questions.shown c.args.self.now).holds c.args.number)

pub loop-slot-preserved : goal.loop-slot-preserved
loop-slot-preserved g c =
    let r = (g.Self.Questions.shown c.args.self.now).holds c.args.number in
    let m = c.loop-slot.slot in
    let old = c.loop-slot.invariant in
    let here : r m ≡ c.holds.result = ap r (sym c.from.ensures) ∙ sym c.holds.ensures in
    elim c.if-holds.branch [
      | then-holds w ↦
          let is : c.if-holds.last ≡ Some m = search (rules, w.last-is) in
          subst₂ (λ d last. Waited r (m + 1) d last) (sym w.wait-is) (sym is)
          (waited_take r m c.loop-slot.wait w.longer-wait.result c.loop-slot.last old (here ∙ w.if-holds.true) w.longer-wait.ensures)
      | else-holds w ↦
          subst₂ (λ d last. Waited r (m + 1) d last) (sym w.wait-is) (sym w.last-is)
          (waited_pass r m c.loop-slot.wait c.loop-slot.last old (here ∙ w.if-holds.false))
    ]

pub returns : goal.returns
returns g c =
    let s = g.Self.Questions.shown c.args.self.now in
    let end : c.loop-slot.slot ≡ s.period = omega (arith, c.period-slot-end.ensures) in
    subst (λ m. Wait (s.holds c.args.number) m c.loop-slot.wait) end c.loop-slot.invariant.wait
