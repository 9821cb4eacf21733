use Rattle.std.proofs.Common.{[], ◌∷◌, decimal, sym, ap, arith}
use Rattle.script.specs.declared.verbs.Verb.TheVariants.{Open}
use Rattle.script.specs.Openings.{opening_words}
use Rattle.script.specs.Verbs.{verb_word}
use Rattle.script.proofs.FormWords.{told_by, follows, no_verb}
use Rattle.script.proofs.OpeningWords.{opened_parts, opening_parts, parts_words}
use Rattle.script.proofs.PartLists.{cases_weaker}
use Rattle.script.proofs.openings.read_opening.Goals as goal

pub mark_line-requires : goal.mark_line-requires
mark_line-requires c = c.new-marks.ensures _

pub returns-in_err-mark_line : goal.returns-in_err-mark_line
returns-in_err-mark_line c =
    rw c.from_residual.ensures (λ period is. c.in_err-mark_line.ensures (parts_words _ period is))

pub returns-in_err-arguments : goal.returns-in_err-arguments
returns-in_err-arguments c =
    rw c.from_residual-in_err-arguments.ensures
    (λ period is. no_verb _ _ c.in_ok-mark_line.ensures _ c.as_slice.ensures c.in_err-arguments.ensures Open (decimal period ∷ []) (opening_parts _ period is))

pub returns-in-Open-default : goal.returns-in-Open-default
returns-in-Open-default c =
    let (first, whole, here) = c.in_ok-arguments.ensures in
    cases_weaker
    c.sole.result
    c.sole.ensures
    (λ none period is.
    let after = follows _ _ c.in_ok-mark_line.ensures _ _ first c.as_slice.ensures whole _ here (opening_words period) (omega arith) (opening_parts _ period is) (omega arith) in
    none period is.0 after.1)
    (λ period stand.
    opened_parts _ period stand.0 (told_by _ _ c.in_ok-mark_line.ensures _ _ first c.as_slice.ensures whole _ here (opening_words period) (omega arith) (ap verb_word (sym c.in-Open-default.is-0), stand.1)))
