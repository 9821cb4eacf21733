use Rattle.std.proofs.Common.{subst}
use Rattle.script.specs.Verbs.{verb_word}
use Rattle.script.specs.Words.{OfKind, word_kind}
use Rattle.script.proofs.KindWords.{apart}
use Rattle.script.proofs.VerbWords.{verb_spelling}
use Rattle.script.proofs.verbs.VerbArgument.from_word.Goals as goal

pub returns-in-Number : goal.returns-in-Number
returns-in-Number c =
    λ verb allowed kind same. apart (verb_word verb) (verb_spelling verb) (subst (λ w. OfKind (word_kind w) (verb_word verb)) c.in-Number.is kind)
