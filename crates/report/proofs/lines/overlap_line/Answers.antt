use Rattle.std.proofs.Common.{◌++◌, codes, ap, ◌∙◌, arith, false-eqb}
use Rattle.report.specs.Lines.{pair_then}
use Rattle.report.specs.Spelled.{commas}
use Rattle.report.proofs.lines.overlap_line.Goals as goal

pub returns : goal.returns
returns g c =
    let list = c.in_ok-links.ensures in
    let same = ap (λ l. pair_then c.args.one (codes " and " ++ pair_then c.args.other (codes " share " ++ commas l))) c.as_slice.ensures.value in
    ((_, list.only 0 (omega (arith, c.in_ok-links.links.ok.0, false-eqb _ 0 c.if-is_empty.ensures))), (_, list, c.in_ok-line.ensures.ok ∙ same))
