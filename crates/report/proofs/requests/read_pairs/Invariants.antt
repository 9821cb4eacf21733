use Rattle.std.proofs.Common.{◌≡◌, vec_items}
use Rattle.report.specs.Words.{all_of}
use Rattle.report.proofs.PairWords.{Read}
use Rattle.report.proofs.requests.read_pairs.Given as goal

abbrev pub invariant-loop-word : goal.invariant-loop-word
invariant-loop-word l =
    (all_of l.words ≡ all_of l.fn.words)
    × Read (all_of l.fn.words) l.fn.words.at (vec_items l.pairs) l.words.at
