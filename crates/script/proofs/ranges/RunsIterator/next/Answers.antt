use Rattle.std.proofs.Common.{length, ap, arith}
use Rattle.script.proofs.RunLists.{no_run, first_run}
use Rattle.script.proofs.ranges.RunsIterator.next.Goals as goal

pub returns-in_err-from-clause-steps : goal.returns-in_err-from-clause-steps
returns-in_err-from-clause-steps c =
    let none = no_run c.args.self.now.row.now c.args.self.now.at c.in_err-from.ensures in
    rw c.from_residual.ensures (none, none)

pub returns-clause-steps : goal.returns-clause-steps
returns-clause-steps c =
    rw c.unwrap_or-to.ensures (first_run c.args.self.now.row.now c.args.self.now.at _ _ c.in_ok-from.ensures c.next_place-2.ensures)

pub returns-clause-goes : goal.returns-clause-goes
returns-clause-goes c =
    let steps = first_run c.args.self.now.row.now c.args.self.now.at _ _ c.in_ok-from.ensures c.next_place-2.ensures in
    record { on = λ finite. (tt, finite, rw c.unwrap_or-to.ensures (omega (arith, ap length steps))); keeps = tt; rests = λ _. tt }
