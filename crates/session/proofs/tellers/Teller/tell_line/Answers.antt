use Rattle.std.proofs.Common.{[], ◌∷◌, Err, refl, inl, inr}
use Rattle.std.proofs.lemmas.Result.{on_ok_weaker}
use Rattle.session.specs.Answers.{answer_line}
use Rattle.session.specs.declared.faults.ScriptFault.TheVariants.{NoForm}
use Rattle.session.proofs.tellers.Teller.tell_line.Goals as goal

pub returns-in-Some : goal.returns-in-Some
returns-in-Some g c =
    on_ok_weaker c.tell_command.result (λ p. (p.0, inr (c.in-Some.command, c.in-Some.ensures, p.1), p.2)) c.tell_command.ensures

pub returns-in-None : goal.returns-in-None
returns-in-None g c =
    on_ok_weaker c.answer.result (λ told. (answer_line (Err NoForm) c.args.number ∷ [], inl (c.in-None.ensures, refl, refl), told)) c.answer.ensures
