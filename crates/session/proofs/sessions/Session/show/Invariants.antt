use Rattle.std.proofs.Common.{ℕ, List}
use Rattle.session.specs.Parts.{Tells, state_of}
use Rattle.session.specs.Shows.{ShowsBelow}
use Rattle.session.proofs.sessions.Session.show.Given as goal

abbrev pub invariant-loop-at : goal.invariant-loop-at
invariant-loop-at g l =
    (lines : List (List ℕ)) × ShowsBelow (state_of l.self) l.at lines × Tells g.P.Printer.took l.initial.teller lines l.teller
