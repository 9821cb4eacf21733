use Rattle.std.proofs.Common.{decimal, refl, subst}
use Rattle.script.specs.Words.{OfKind, word_kind}
use Rattle.script.proofs.KindWords.{apart}
use Rattle.script.proofs.arguments.U16Argument.from_word.Goals as goal

pub returns-in-Name : goal.returns-in-Name
returns-in-Name c =
    λ n small kind same. apart (decimal n) (subst (λ w. OfKind (word_kind w) (decimal n)) c.in-Name.is kind) (n, small, refl)
