use Rattle.std.proofs.Common.{◌<◌, length, [], ◌∷◌, ◌++◌, None, take, sym, refl, ap, ◌∙◌, subst, arith}
use Rattle.std.proofs.lemmas.List.{get_or_read}
use Rattle.labels.specs.Names.{spelled}
use Rattle.session.specs.Parts.{Tells, state_of}
use Rattle.session.specs.Shows.{ShowsBelow, flow_line}
use Rattle.session.proofs.Flows.{no_flow, shown_flow, shows_more}
use Rattle.session.proofs.Handing.{tells_more}
use Rattle.session.proofs.sessions.Session.show.Goals as goal
use Rattle.session.proofs.sessions.Session.show.Goals.{in-Some+in_ok-tell, in_default}

pub loop-at-init : goal.loop-at-init
unfolding ShowsBelow
loop-at-init g c = ([], refl, (refl, refl))

pub loop-at-preserved : goal.loop-at-preserved
loop-at-preserved g c =
    let session = c.args.self.now in
    let s = state_of session in
    let n = c.loop-at.at in
    let took = g.P.Printer.took in
    let before = c.loop-at.invariant in
    let inside : n < length session.labels = omega (arith, c.loop-at-test.true, session.sized) in
    let entry = sym (get_or_read session.labels n c.label-item.result inside c.label-item.is None) ∙ c.label-item.is in
    elim c.match-label.branch [
      | in-Some+in_ok-tell w ↦
          let row = ap (λ k. take k w.slot_row-row.result) (w.from.ensures ∙ w.period.ensures) ∙ w.slot_row-row.ensures.row in
          let line = flow_line (spelled w.in-Some.name) n w.demand.result w.wait.result (take w.from.result w.slot_row-row.result) in
          let flow = shown_flow s n w.in-Some.name w.demand.result w.wait.result _ session.named (entry ∙ w.in-Some.is) w.demand.ensures w.wait.ensures row in
          let told = subst (λ t. Tells took c.loop-at.teller (line ∷ []) t) (sym w.teller-is) (w.in_ok-tell.ensures line refl) in
          (before.0 ++ (line ∷ []), shows_more s n before.0 (line ∷ []) before.1 flow, tells_more took before.0 (line ∷ []) c.args.teller.now c.loop-at.teller c.match-label.teller before.2 told)
      | in_default w ↦
          (before.0 ++ [], shows_more s n before.0 [] before.1 (no_flow s n session.named (entry ∙ w.in_default.is)), tells_more took before.0 [] c.args.teller.now c.loop-at.teller c.match-label.teller before.2 (ap (λ t. t.out.now) w.teller-is, ap (λ t. t.out.ghost_name) w.teller-is))
    ]
