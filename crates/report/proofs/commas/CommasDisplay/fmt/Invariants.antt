use Rattle.std.proofs.Common.{◌++◌, take, codes, decimal}
use Rattle.std.specs.List.{flat_map}
use Rattle.std.specs.Fmt.{IsPlainFormatter, HasWritten}
use Rattle.report.proofs.commas.CommasDisplay.fmt.Given as goal

-- since the first number, those so far were written
abbrev pub invariant-loop-n : goal.invariant-loop-n
invariant-loop-n g l =
    IsPlainFormatter l.initial.f → HasWritten g.W.Write.write_str_gives l.initial.f (flat_map (λ m. codes "," ++ decimal m) (take l.n-index l.rest)) l.f
