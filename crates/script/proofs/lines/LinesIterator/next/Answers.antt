use Rattle.std.proofs.Common.{refl, arith}
use Rattle.std.proofs.lemmas.Bool.Decides.{nat_tests}
use Rattle.script.proofs.LineLists.{first_line}
use Rattle.script.proofs.lines.LinesIterator.next.Goals as goal

pub returns-clause-steps : goal.returns-clause-steps
returns-clause-steps c =
    rw c.unwrap_or-self.ensures (first_line _ _ _ _ refl c.cut.ensures.free c.cut.ensures.whole (grind (arith, nat_tests)))
