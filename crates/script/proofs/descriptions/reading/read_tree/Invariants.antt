use Rattle.script.proofs.TreeWords.{NumbersRead}
use Rattle.script.proofs.descriptions.reading.read_tree.Given as goal

-- the parents at the marks so far are read, and the rest of the room is free
abbrev pub invariant-loop-at : goal.invariant-loop-at
invariant-loop-at l = NumbersRead l.line l.arguments l.room l.at
