use Rattle.std.proofs.Common.{◌≡◌, ◌<◌, ◌≤◌, false, length, take, ◌∙◌, arith, length-set, length-take, get_or-take}
use Rattle.std.proofs.lemmas.List.FromFn.{fill_by_all}
use Rattle.std.proofs.lemmas.List.Edits.{fill_by_more}
use Rattle.session.specs.Shows.{slot_row}
use Rattle.session.proofs.rows.slot_row.Goals as goal

pub loop-slot-preserved : goal.loop-slot-preserved
loop-slot-preserved g c =
    let i = c.loop-slot.invariant in
    let shown = g.Q.Questions.shown c.args.plan.now in
    let inside : c.loop-slot.slot < length c.loop-slot.row = omega (arith, i.whole, c.period-slot-end.type_inv) in
    simp (c.from-in-loop-slot.ensures, c.from.ensures, c.holds.ensures)
    (record {
      whole = length-set c.loop-slot.row c.loop-slot.slot (shown.holds c.args.number c.loop-slot.slot) ∙ i.whole;
      held = fill_by_more (shown.holds c.args.number) c.loop-slot.row c.loop-slot.slot false inside i.held;
    })

pub returns : goal.returns
unfolding slot_row
returns g c =
    let i = c.loop-slot.invariant in
    let shown = g.Q.Questions.shown c.args.plan.now in
    let p = shown.period in
    let few : p ≤ 255 = omega (arith, c.period-slot-end.ensures, c.period-slot-end.type_inv) in
    let long : length (take p c.loop-slot.row) ≡ p = simp length-take (omega (arith, i.whole)) in
    record {
      row = fill_by_all (shown.holds c.args.number) (take p c.loop-slot.row) p false long (λ k h. rw get_or-take (i.held k (omega (arith, c.period-slot-end.ensures, c.loop-slot-test.false))));
      whole = i.whole;
    }
