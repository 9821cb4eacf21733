use Rattle.std.proofs.Common.{refl, sym, ◌∙◌, subst, ⊎_elim}
use Rattle.report.specs.Spelled.{IsNumbers}
use Rattle.report.specs.Words.{Takes}
use Rattle.report.proofs.Refusals.{handed_on}
use Rattle.report.proofs.WordPlaces.{taken}
use Rattle.report.proofs.descriptions.read_description.Goals as goal

pub returns-in_err-numbers-in-tree-clause-read : goal.returns-in_err-numbers-in-tree-clause-read
returns-in_err-numbers-in-tree-clause-read c =
    let gave = subst (λ o. Takes c.args.words.now o c.next.new.self) c.in_ok-name.ensures.ok_part c.next.ensures.steps in
    let first = taken c.args.words.now c.args.words.now c.next.new.self refl c.in_ok-name.name gave in
    let gives = subst (λ o. Takes c.next.new.self o c.next-2.new.self) c.in_ok-description-in-tree.ensures.ok_part c.next-2.ensures.steps in
    let second = taken c.args.words.now c.next.new.self c.next-2.new.self first.same c.in_ok-description-in-tree.field-0 gives in
    handed_on _ _ _ _ c.from_residual-in_err-numbers-in-tree.ensures.1
    (⊎_elim (λ none. rw none tt) (λ told. rw (told.0, second.place) (c.requires.0.0, c.args.words.now.at, c.requires.0.1, first.text ∙ c.in-tree.is, first.next, second.inside, subst (λ w. IsNumbers w → ⊥) (sym second.text) told.1)) c.in_err-numbers-in-tree.ensures)
