use Rattle.std.proofs.Common.{◌++◌, codes, sym, ap, ◌∙◌, inr}
use Rattle.std.proofs.lemmas.Result.{IfOk-weaker}
use Rattle.report.specs.Lines.{pair_then}
use Rattle.report.specs.Spelled.{commas}
use Rattle.report.proofs.AscendingLists.{alike}
use Rattle.report.proofs.lines.route_line.Goals as goal

pub returns : goal.returns
returns g c =
    let list = alike (λ k h. h.0) (λ k h. (h, h)) c.in_ok-links.ensures in
    let same = ap (λ l. pair_then c.args.pair (codes " crosses " ++ commas l)) c.as_slice.ensures.value in
    IfOk-weaker _ _ _ (λ line e. inr (sym c.if-not-routed.ensures, (_, list, e ∙ same))) c.format-2.ensures.ok
