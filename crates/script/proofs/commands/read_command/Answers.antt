use Rattle.std.proofs.Common.{length, ap, ◌∙◌, arith}
use Rattle.script.specs.Commands.{command_words}
use Rattle.script.proofs.CommandWords.{command_parts, formed, parts_words, spelled_parts}
use Rattle.script.proofs.FormWords.{told_by, follows, no_verb}
use Rattle.script.proofs.PartLists.{cases_weaker}
use Rattle.script.proofs.commands.read_command.Goals as goal

pub mark_line-requires : goal.mark_line-requires
mark_line-requires c = c.new-marks.ensures _

pub returns-in_err-mark_line : goal.returns-in_err-mark_line
returns-in_err-mark_line c =
    rw c.from_residual.ensures (λ command is. c.in_err-mark_line.ensures (parts_words _ command is))

pub returns-in_err-verb : goal.returns-in_err-verb
returns-in_err-verb c =
    rw c.from_residual-in_err-verb.ensures
    (λ command is.
    let form = formed command in
    no_verb _ _ c.in_ok-mark_line.ensures _ c.as_slice.ensures c.in_err-verb.ensures form.verb form.others (command_parts _ command is ∙ form.first))

pub returns : goal.returns
returns c =
    let (first, whole, here) = c.in_ok-verb.ensures in
    cases_weaker
    c.read_arguments.result
    c.read_arguments.ensures
    (λ none command is.
    let form = formed command in
    none command is.0 (follows _ _ c.in_ok-mark_line.ensures _ _ first c.as_slice.ensures whole _ here (command_words command) (omega (arith, ap length form.first)) (command_parts _ command is) (omega (arith, form.few))))
    (λ command spelled.
    spelled_parts _ command spelled.0 (told_by _ _ c.in_ok-mark_line.ensures _ _ first c.as_slice.ensures whole _ here (command_words command) (omega (arith, (formed command).few)) spelled.1))
