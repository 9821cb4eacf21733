use Rattle.std.proofs.Common.{arith, ltb-false, ltb-true}
use Rattle.script.specs.Commands.{wanted_words}
use Rattle.script.proofs.MarkLists.{stand_length, stand_at}
use Rattle.script.proofs.arguments.read_wanted.Goals as goal

pub returns-in_default : goal.returns-in_default
returns-in_default c = λ flow short stand. omega (arith, ltb-true, ltb-false, stand_length c.args.line.now c.args.arguments.now (wanted_words flow) stand)

pub returns-in_default-2 : goal.returns-in_default-2
returns-in_default-2 c = λ flow short stand. omega (arith, ltb-true, ltb-false, stand_length c.args.line.now c.args.arguments.now (wanted_words flow) stand)

pub returns-in_err-argument_at-4 : goal.returns-in_err-argument_at-4
returns-in_err-argument_at-4 c =
    rw c.from_residual-in_err-argument_at-4.ensures (λ flow short stand. c.in_err-argument_at-4.ensures flow.destination short.2 (stand_at c.args.line.now c.args.arguments.now (wanted_words flow) 3 _ stand (omega (arith, ltb-true, ltb-false))))

pub returns-in_err-argument_at-5 : goal.returns-in_err-argument_at-5
returns-in_err-argument_at-5 c =
    rw c.from_residual-in_err-argument_at-5.ensures (λ flow short stand. c.in_err-argument_at-5.ensures flow.demand short.3 (stand_at c.args.line.now c.args.arguments.now (wanted_words flow) 4 _ stand (omega (arith, ltb-true, ltb-false))))
