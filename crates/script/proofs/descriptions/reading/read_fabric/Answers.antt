use Rattle.std.proofs.Common.{◌∷◌, arith}
use Rattle.script.specs.Verbs.{verb_word}
use Rattle.script.proofs.TreeWords.{sole}
use Rattle.script.proofs.descriptions.reading.read_fabric.Goals as goal

pub returns-in_ok-sole-in-Line : goal.returns-in_ok-sole-in-Line
returns-in_ok-sole-in-Line c =
    λ words after.
    let one = sole c.args.line.now c.args.arguments.now c.args.beyond _ c.in_ok-sole-in-Line.ensures.1 words after in
    (omega arith, (λ i. verb_word (c.in-Line.is i) ∷ one i))
