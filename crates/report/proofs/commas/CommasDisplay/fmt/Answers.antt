use Rattle.std.proofs.Common.{refl}
use Rattle.std.proofs.Output.{has_written_append, has_written_of_eq}
use Rattle.report.proofs.CommaLists.{all_told}
use Rattle.report.proofs.commas.CommasDisplay.fmt.Goals as goal

pub returns-after-loop-n-clause-writes : goal.returns-after-loop-n-clause-writes
returns-after-loop-n-clause-writes g c =
    λ plain ok.
    let first = c.in_ok-write.ensures.writes plain refl in
    has_written_of_eq _ _ _ _ _ (all_told _ _ c.in-len1-up.len_at_least c.loop-n-test.false) (has_written_append _ _ _ _ _ _ first (c.loop-n.invariant first.plain))
