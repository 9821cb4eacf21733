use Rattle.std.proofs.Common.{length, sym, ap, ◌∙◌, subst, arith, length-take}
use Rattle.script.specs.Descriptions.{Described}
use Rattle.script.specs.Marks.{After}
use Rattle.script.specs.Words.{parts}
use Rattle.script.proofs.DescriptionWords.{description_parts, described_parts, formed, others, parts_words}
use Rattle.script.proofs.FormWords.{no_verb}
use Rattle.script.proofs.MarkLists.{stand_length}
use Rattle.script.proofs.PartLists.{cases_weaker}
use Rattle.script.proofs.descriptions.reading.read_description.Goals as goal

pub mark_line-requires : goal.mark_line-requires
mark_line-requires c = c.new-marks.ensures _

pub returns-in_err-mark_line : goal.returns-in_err-mark_line
returns-in_err-mark_line c =
    rw c.from_residual.ensures (λ fabric is. c.in_err-mark_line.ensures (parts_words _ fabric is))

pub returns-in_err-verb : goal.returns-in_err-verb
returns-in_err-verb c =
    rw c.from_residual-in_err-verb.ensures
    (λ fabric is.
    let form = formed fabric _ (description_parts _ fabric is) in
    no_verb _ _ c.in_ok-mark_line.ensures _ c.as_slice.ensures c.in_err-verb.ensures form.verb form.others form.first)

pub returns : goal.returns
returns c =
    let (first, whole, here) = c.in_ok-verb.ensures in
    let (words, same, after) = others _ _ c.in_ok-mark_line.ensures _ _ first c.as_slice.ensures whole _ here in
    let past = subst (λ beyond. After c.args.line.now c.in_ok-verb.arguments.now beyond words) (sym c.beyond.ensures) after in
    cases_weaker
    c.read_fabric.result
    c.read_fabric.ensures
    (λ none fabric is. none words past fabric (subst (Described fabric) same (description_parts _ fabric is)))
    (λ fabric reads. described_parts _ fabric (subst (Described fabric) (sym same) (reads words past)))

pub read_fabric-requires : goal.read_fabric-requires
read_fabric-requires c =
    let (first, whole, here) = c.in_ok-verb.ensures in
    let words = parts c.args.line.now in
    omega (arith, ap length (sym c.as_slice.ensures ∙ whole), stand_length _ _ _ c.in_ok-mark_line.ensures.first, length-take 128 words)
