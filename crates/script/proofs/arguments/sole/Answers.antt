use Rattle.std.proofs.Common.{[], ◌∷◌, arith, ltb-false, ltb-true}
use Rattle.script.proofs.MarkLists.{stand_length}
use Rattle.script.proofs.arguments.sole.Goals as goal

pub returns-in_default : goal.returns-in_default
returns-in_default g c =
    λ value allowed stand. omega (arith, ltb-true, ltb-false, stand_length c.args.line.now c.args.arguments.now (g.A.Argument.spelling value ∷ []) stand)
