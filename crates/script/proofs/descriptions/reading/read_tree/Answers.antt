use Rattle.std.proofs.Common.{arith}
use Rattle.script.proofs.TreeWords.{none_read, one_more, no_number, no_tree, short_tree, long_tree}
use Rattle.script.proofs.descriptions.reading.read_tree.Goals as goal

pub returns-in_err-room : goal.returns-in_err-room
returns-in_err-room c =
    rw c.from_residual.ensures
    (no_number c.args.line.now c.args.arguments.now c.args.beyond c.requires c.loop-at.at c.loop-at-test.true c.in_err-room.ensures)

pub loop-at-init : goal.loop-at-init
loop-at-init c = none_read c.args.line.now c.args.arguments.now

pub loop-at-preserved : goal.loop-at-preserved
loop-at-preserved c =
    one_more _ _ _ _ _ (omega (arith, c.requires)) c.loop-at.invariant (omega arith) c.in_ok-room.ensures.1

pub returns-in-Nothing : goal.returns-in-Nothing
returns-in-Nothing c =
    short_tree c.args.line.now c.args.arguments.now c.args.beyond c.requires c.loop-at.room c.loop-at.at (omega arith) c.loop-at.invariant c.in-Nothing.is

pub returns-in-Numbers : goal.returns-in-Numbers
returns-in-Numbers c =
    long_tree c.args.line.now c.args.arguments.now c.args.beyond c.requires c.loop-at.room c.loop-at.at (omega arith) c.loop-at.invariant c.in-Numbers.is

pub returns-in-Names : goal.returns-in-Names
returns-in-Names c =
    no_tree c.args.line.now c.args.arguments.now c.args.beyond c.requires c.in-Names.is
