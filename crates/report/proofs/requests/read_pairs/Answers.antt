use Rattle.std.proofs.Common.{vec_items, refl, inl, inr, sym, ◌∙◌, subst, arith}
use Rattle.report.specs.Spelled.{IsNumber}
use Rattle.report.specs.Words.{Takes}
use Rattle.report.proofs.Refusals.{handed_on}
use Rattle.report.proofs.PairWords.{one_more}
use Rattle.report.proofs.WordPlaces.{taken}
use Rattle.report.proofs.requests.read_pairs.Goals as goal

pub returns-in_err-source : goal.returns-in_err-source
returns-in_err-source c =
    let first = taken c.args.words.now c.loop-word.words c.next.new.self c.loop-word.invariant.0 c.in-Some.word c.in-Some.ensures.steps in
    let told = c.in_err-source.ensures in
    handed_on _ _ _ _ c.from_residual.ensures.1
    (rw (told.0, first.place) (first.inside, subst (λ w. IsNumber w → ⊥) (sym first.text) told.1, inr (c.requires.0, vec_items c.loop-word.pairs, c.loop-word.words.at, (c.args.words.now.at, c.requires.1, c.loop-word.invariant.1.0, c.loop-word.invariant.1.1, c.loop-word.invariant.1.2), inl refl)))

pub returns-in_err-destination : goal.returns-in_err-destination
returns-in_err-destination c =
    let first = taken c.args.words.now c.loop-word.words c.next.new.self c.loop-word.invariant.0 c.in-Some.word c.in-Some.ensures.steps in
    let gives = subst (λ o. Takes c.next.new.self o c.next-in-Some.new.self) c.in_ok-ok_or.ensures.ok_part c.next-in-Some.ensures.steps in
    let second = taken c.args.words.now c.next.new.self c.next-in-Some.new.self first.same c.in_ok-ok_or.field-0 gives in
    let told = c.in_err-destination.ensures in
    handed_on _ _ _ _ c.from_residual-in_err-destination.ensures.1
    (rw (told.0, second.place) (second.inside, subst (λ w. IsNumber w → ⊥) (sym second.text) told.1, inr (c.requires.0, vec_items c.loop-word.pairs, c.loop-word.words.at, (c.args.words.now.at, c.requires.1, c.loop-word.invariant.1.0, c.loop-word.invariant.1.1, c.loop-word.invariant.1.2), inr (first.next, (c.in_ok-source.source, omega arith, first.text ∙ c.in_ok-source.ensures)))))

pub loop-word-preserved : goal.loop-word-preserved
loop-word-preserved c =
    let first = taken c.args.words.now c.loop-word.words c.next.new.self c.loop-word.invariant.0 c.in-Some.word c.in-Some.ensures.steps in
    let gives = subst (λ o. Takes c.next.new.self o c.next-in-Some.new.self) c.in_ok-ok_or.ensures.ok_part c.next-in-Some.ensures.steps in
    let second = taken c.args.words.now c.next.new.self c.next-in-Some.new.self first.same c.in_ok-ok_or.field-0 gives in
    (second.same, rw c.in_ok-push.ensures.items (one_more c.args.words.now c.next.new.self c.next-in-Some.new.self _ _ _ _ _ _ c.loop-word.invariant.1 first second (omega arith, omega arith) c.in_ok-source.ensures c.in_ok-destination.ensures))
