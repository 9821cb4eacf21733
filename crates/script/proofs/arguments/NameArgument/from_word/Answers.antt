use Rattle.std.proofs.Common.{subst}
use Rattle.labels.specs.Names.{spelled}
use Rattle.script.specs.Words.{OfKind, word_kind}
use Rattle.script.proofs.KindWords.{apart}
use Rattle.script.proofs.arguments.NameArgument.from_word.Goals as goal

pub returns-in-Number : goal.returns-in-Number
returns-in-Number c =
    λ name allowed kind same. apart (spelled name) name.spells (subst (λ w. OfKind (word_kind w) (spelled name)) c.in-Number.is kind)
