-- The fabrics that a script can build.
use Rattle.fabric.specs.Lines.{line_meaning}
use Rattle.fabric.specs.Meaning.{Meaning}
use Rattle.fabric.specs.Trees.{tree_meaning}
use Rattle.session.specs.declared.builds.Built.{Built}
use Rattle.session.specs.declared.builds.Built.TheVariants.{Line, Tree}

abbrev pub built_meaning : Built → Meaning
built_meaning (Line line) = line_meaning line.terminals
built_meaning (Tree tree) = tree_meaning tree.parents.items
