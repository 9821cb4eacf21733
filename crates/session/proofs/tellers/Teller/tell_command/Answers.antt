use Rattle.std.proofs.Common.{◌≡◌, [], ◌∷◌, refl, rules}
use Rattle.std.proofs.lemmas.Result.{on_ok_weaker}
use Rattle.script.specs.declared.commands.Command.TheVariants.{Show}
use Rattle.session.specs.Answers.{answer_line}
use Rattle.session.specs.Parts.{state_of}
use Rattle.session.proofs.Turns.{command_told}
use Rattle.session.proofs.tellers.Teller.tell_command.Goals as goal

pub returns-in-Show : goal.returns-in-Show
returns-in-Show g c =
    rw c.in-Show.is (on_ok_weaker c.show.result (λ p. (p.0, (p.1, refl), p.2)) c.show.ensures)

pub returns-in_default : goal.returns-in_default
returns-in_default g c =
    let a = c.obey-given.result in
    let s = state_of c.args.session.now in
    let t = state_of c.obey-given.new.self in
    let other : c.args.command ≡ Show → ⊥ = search rules in
    on_ok_weaker c.answer.result (λ told. (answer_line a c.args.number ∷ [], command_told c.args.number s c.args.command _ t other (a, c.obey-given.ensures, refl), told)) c.answer.ensures
