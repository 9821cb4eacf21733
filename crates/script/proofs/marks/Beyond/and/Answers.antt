use Rattle.std.proofs.Common.{subst}
use Rattle.script.specs.Words.{OfKind}
use Rattle.script.specs.Marks.{Past}
use Rattle.script.proofs.MarkLists.{a_name, still_names, a_number}
use Rattle.script.proofs.marks.Beyond.and.Goals as goal

pub returns-in-Name : goal.returns-in-Name
returns-in-Name c = λ words word old kind. a_name words word (subst (λ k. OfKind k word) c.in-Name.is kind)

pub returns-in-Names : goal.returns-in-Names
returns-in-Names c = λ words word old kind. still_names words word (subst (λ b. Past b words) c.in-Names.is old)

pub returns-in-Nothing : goal.returns-in-Nothing
returns-in-Nothing c =
    λ words word old kind.
    a_number c.args.self words word c.in-Nothing.is old (subst (λ k. OfKind k word) c.in-Number.is kind)
