use Rattle.std.proofs.Common.{suc, refl, arith}
use Rattle.fabric.proofs.trees.Tree.fill.Goals as goal

pub returns-then-from-child : goal.returns-then-from-child
returns-then-from-child c =
    (λ lawful. omega (arith, lawful.2 (suc c.loop-at.at) (omega arith) (omega arith)), refl, refl)
