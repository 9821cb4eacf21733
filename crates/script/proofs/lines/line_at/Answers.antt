use Rattle.std.proofs.Common.{◌-◌, length, drop, ap, ◌∙◌, subst, arith, length-drop}
use Rattle.std.proofs.lemmas.List.{take_all}
use Rattle.script.specs.Lines.{FirstLine}
use Rattle.script.proofs.LineLists.{next_line}
use Rattle.script.proofs.lines.line_at.Goals as goal

pub returns : goal.returns
returns c =
    let (inside, within, part, long) = c.in_ok-get.ensures.lookup.0 in
    let script = c.args.script.now in
    let rest = c.next.new.self.rest.now in
    let first = c.in_ok-bytes.ensures.steps in
    let start = c.new-lines.ensures ∙ part ∙ take_all (length script - c.args.from) (drop c.args.from script) (omega (arith, length-drop c.args.from script)) in
    next_line script c.args.from c.in_ok-bytes.bytes.now rest (length script - length rest) inside (omega (arith, first.shorter, ap length start, length-drop c.args.from script)) (subst (λ left. FirstLine left c.in_ok-bytes.bytes.now rest) start first)
