use Rattle.script.specs.Lines.{left}
use Rattle.session.specs.Parts.{state_of}
use Rattle.session.proofs.Wholes.{opening_accepted, opening_refused}
use Rattle.session.proofs.tellers.Teller.run_over.Goals as goal

pub returns-in_ok-answer-in-Ok : goal.returns-in_ok-answer-in-Ok
returns-in_ok-answer-in-Ok g c =
    opening_accepted g.P.Printer.took c.run_rest.result (left c.args.lines) c.in-Some.line.now (left c.next.new.self) (g.F.Fabric.meaning c.args.fabric) c.in-Ok.period.slots (state_of c.open.result) c.args.self.now c.answer.new.self c.answer-in-Ok.new.self c.run_rest.new.self c.in-Some.ensures.steps c.in-Ok.ensures c.open.ensures.opens c.open.ensures.none c.in_ok-answer.ensures c.in_ok-answer-in-Ok.ensures c.run_rest.ensures

pub returns-in-Err : goal.returns-in-Err
returns-in-Err g c =
    opening_refused g.P.Printer.took c.answer-in-Err.result (left c.args.lines) c.in-Some.line.now (left c.next.new.self) (g.F.Fabric.meaning c.args.fabric) c.in-Err.fault c.args.self.now c.answer.new.self c.answer-in-Err.new.self c.in-Some.ensures.steps c.in-Err.ensures c.in_ok-answer.ensures c.answer-in-Err.ensures
