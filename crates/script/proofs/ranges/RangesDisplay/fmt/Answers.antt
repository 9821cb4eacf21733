use Rattle.std.proofs.Common.{refl}
use Rattle.std.proofs.lemmas.Iterator.Consumers.{YieldsList-from_first}
use Rattle.script.specs.Ranges.{left, runs, range}
use Rattle.script.proofs.ranges.RangesDisplay.fmt.Goals as goal

pub returns-clause-writes : goal.returns-clause-writes
returns-clause-writes g c =
    let all = runs c.args.self.now.0.now in
    c.write_parted.ensures all range (YieldsList-from_first (λ run. run) left all refl).runs (λ run. refl)
