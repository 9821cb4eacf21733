use Rattle.script.specs.Lines.{left}
use Rattle.session.specs.Starts.{built_meaning}
use Rattle.session.specs.declared.builds.Built.TheVariants.{Line, Tree}
use Rattle.session.proofs.Wholes.{fabric_accepted, fabric_refused, too_long}
use Rattle.session.proofs.tellers.Teller.run.Goals as goal

pub returns-then-script-gt-LIMIT : goal.returns-then-script-gt-LIMIT
returns-then-script-gt-LIMIT g c =
    too_long g.P.Printer.took c.answer.result c.args.script.now c.args.self.now c.answer.new.self c.if-script-gt-LIMIT.true c.answer.ensures

pub returns-in-Ok-Line : goal.returns-in-Ok-Line
returns-in-Ok-Line g c =
    fabric_accepted g.P.Printer.took c.run_over.result c.args.script.now (left c.new-lines.result) c.in-Some.line.now (left c.next.new.self) (built_meaning (Line c.in-Ok-Line.fabric)) c.args.self.now c.run_over.new.self c.if-script-gt-LIMIT.false c.new-lines.ensures c.in-Some.ensures.steps (rw c.in-Ok-Line.field-0-is at c.in-Ok-Line.ensures) c.run_over.ensures

pub returns-in-Ok-Tree : goal.returns-in-Ok-Tree
returns-in-Ok-Tree g c =
    fabric_accepted g.P.Printer.took c.run_over-in-Ok-Tree.result c.args.script.now (left c.new-lines.result) c.in-Some.line.now (left c.next.new.self) (built_meaning (Tree c.in-Ok-Tree.fabric)) c.args.self.now c.run_over-in-Ok-Tree.new.self c.if-script-gt-LIMIT.false c.new-lines.ensures c.in-Some.ensures.steps (rw c.in-Ok-Tree.field-0-is at c.in-Ok-Tree.ensures) c.run_over-in-Ok-Tree.ensures

pub returns-in-Err : goal.returns-in-Err
returns-in-Err g c =
    fabric_refused g.P.Printer.took c.answer-in-Err.result c.args.script.now (left c.new-lines.result) c.in-Some.line.now (left c.next.new.self) c.in-Err.fault c.args.self.now c.answer-in-Err.new.self c.if-script-gt-LIMIT.false c.new-lines.ensures c.in-Some.ensures.steps c.in-Err.ensures c.answer-in-Err.ensures
