use Rattle.std.proofs.Common.{◌<◌}
use Rattle.fabric.specs.Trees.{tree_size}
use Rattle.fabric.specs.TreeLaws.{Alike}
use Rattle.fabric.proofs.trees.Tree.in_lineage.Given as goal

-- the terminal is in the lineage of the first exactly when it is in that of the one now reached
abbrev pub invariant-loop-at : goal.invariant-loop-at
invariant-loop-at l =
    (l.at < tree_size l.self.parents.items) × Alike l.self.parents.items l.terminal l.of l.at

abbrev pub decreases-loop-at : goal.decreases-loop-at
decreases-loop-at l = l.at
