use Rattle.std.proofs.Common.{ℕ, ◌+◌, ◌≤◌, List, length}
use Rattle.std.specs.Iterator.Adapters.{zip_first, zip_second}
use Rattle.script.specs.Lines.{left}
use Rattle.session.specs.Parts.{Tells, state_of}
use Rattle.session.proofs.Turns.{Reaches}
use Rattle.session.proofs.tellers.Teller.run_rest.Given as goal

abbrev pub invariant-loop-number : goal.invariant-loop-number
invariant-loop-number g l =
    let ahead = left (zip_second l.number-iterator) in
    let number = (zip_first l.number-iterator).start in
    record {
      bounded : number + length ahead ≤ 16387;
      told : (done : List (List ℕ)) × Tells g.P.Printer.took l.initial.self done l.self × Reaches (left l.lines) 3 (state_of l.initial.session) ahead number (state_of l.session) done;
    }
