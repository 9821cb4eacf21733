use Rattle.std.proofs.Common.{◌≡◌, ℕ, List, ◌++◌}
use Rattle.std.specs.Iterator.{AlwaysYields}
use Rattle.script.specs.Marks.{Marked}
use Rattle.script.specs.Words.{parts}
use Rattle.script.proofs.PartLists.{Ahead}
use Rattle.script.proofs.marks.marking.mark_line.Given as goal

-- the parts so far are marked, and the others stand from here on
abbrev pub invariant-loop-part : goal.invariant-loop-part
invariant-loop-part l =
    (goal.iterator-loop-part).can_next l.part-iterator
    × (goal.iterator-loop-part).is_finite l.part-iterator
    × ((told : List (List ℕ)) × (more : List (List ℕ))
    × (parts l.line ≡ told ++ more)
    × AlwaysYields (goal.iterator-loop-part).next_gives (λ part. part.now) l.part-iterator more
    × Ahead l.line l.from more
    × Marked l.line l.marks told)
