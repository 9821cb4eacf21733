use Rattle.std.proofs.Common.{◌≡◌, ℕ, ◌<◌, ◌≤◌, get_or, take}
use Rattle.fabric.proofs.trees.Tree.fill.Given as goal

-- the parents so far are copied, and each is numbered below its child
abbrev pub invariant-loop-at : goal.invariant-loop-at
invariant-loop-at l =
    (l.copied.items ≡ take l.at l.parents) × ((k : ℕ) → k < l.at → get_or l.parents k 0 ≤ k)
