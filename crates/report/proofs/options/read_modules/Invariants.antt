use Rattle.std.proofs.Common.{◌≡◌, ◌-◌, length, vec_items}
use Rattle.report.specs.Requests.{OptionsTo}
use Rattle.report.specs.Words.{all_of}
use Rattle.report.proofs.options.read_modules.Given as goal

-- the words that were read are the options of the modules so far
abbrev pub invariant-loop-spur : goal.invariant-loop-spur
invariant-loop-spur l =
    (all_of l.words ≡ all_of l.fn.words)
    × OptionsTo (all_of l.fn.words) (vec_items l.modules) l.words.at

abbrev pub decreases-loop-spur : goal.decreases-loop-spur
decreases-loop-spur l = length l.words.all.now - l.words.at
