-- The words of commands.
use Rattle.std.proofs.Common.{◌≡◌, ℕ, ◌≤◌, List, [], ◌∷◌, length, sym, refl, ap, ◌∙◌, subst, arith}
use Rattle.std.specs.List.{AllByRecursion}
use Rattle.labels.specs.Names.{spelled}
use Rattle.script.specs.declared.commands.Command.{Command}
use Rattle.script.specs.declared.commands.Command.TheVariants.{Enrol, Admit, Withdraw, Replan, Start, Rest, Show}
use Rattle.script.specs.declared.commands.Wanted.{Wanted}
use Rattle.script.specs.declared.verbs.Verb.{Verb}
use Rattle.script.specs.declared.verbs.Verb.TheVariants as verbs
use Rattle.script.specs.Commands.{wanted_words, command_words, ShortWanted, ShortCommand, IsCommand}
use Rattle.script.specs.Verbs.{verb_word}
use Rattle.script.specs.Words.{IsWord, parts, spaced}
use Rattle.script.proofs.KindWords.{verb_is, name_is, number_is, parts_are}
use Rattle.script.proofs.PartLists.{spaced_parts}

wanted_are : (flow : Wanted) → ShortWanted flow → AllByRecursion IsWord (wanted_words flow)
wanted_are flow (number, source, destination, demand) =
    (name_is flow.name, (number_is flow.number number, (number_is flow.source source, (number_is flow.destination destination, (number_is flow.demand demand, tt)))))

words_are : (command : Command) → ShortCommand command → AllByRecursion IsWord (command_words command)
words_are (Enrol flow) short = (verb_is verbs.Enrol, wanted_are flow short)
words_are (Admit flow) short = (verb_is verbs.Admit, wanted_are flow short)
words_are (Withdraw name) short = (verb_is verbs.Withdraw, (name_is name, tt))
words_are Replan short = (verb_is verbs.Replan, tt)
words_are Start short = (verb_is verbs.Start, tt)
words_are Rest short = (verb_is verbs.Rest, tt)
words_are Show short = (verb_is verbs.Show, tt)

-- a command has few words, and its first is a verb
pub record Formed (words : List (List ℕ)) : Type 0 where
  pub verb : Verb
  pub others : List (List ℕ)
  pub first : words ≡ verb_word verb ∷ others
  pub few : length words ≤ 6

pub formed : (command : Command) → Formed (command_words command)
formed (Enrol flow) = record { verb = verbs.Enrol; others = wanted_words flow; first = refl; few = omega arith }
formed (Admit flow) = record { verb = verbs.Admit; others = wanted_words flow; first = refl; few = omega arith }
formed (Withdraw name) = record { verb = verbs.Withdraw; others = spelled name ∷ []; first = refl; few = omega arith }
formed Replan = record { verb = verbs.Replan; others = []; first = refl; few = omega arith }
formed Start = record { verb = verbs.Start; others = []; first = refl; few = omega arith }
formed Rest = record { verb = verbs.Rest; others = []; first = refl; few = omega arith }
formed Show = record { verb = verbs.Show; others = []; first = refl; few = omega arith }

-- the parts of a command's line are its words
pub command_parts : (line : List ℕ) (command : Command) → IsCommand line command → parts line ≡ command_words command
command_parts line command (short, same) =
    parts_are line (command_words command) (omega (arith, ap length (formed command).first)) (words_are command short) same

-- each of them is a word
pub parts_words : (line : List ℕ) (command : Command) → IsCommand line command → AllByRecursion IsWord (parts line)
parts_words line command is = subst (AllByRecursion IsWord) (sym (command_parts line command is)) (words_are command is.0)

-- a line of such parts is the command
pub spelled_parts : (line : List ℕ) (command : Command) → ShortCommand command → parts line ≡ command_words command → IsCommand line command
spelled_parts line command short same = (short, sym (spaced_parts line) ∙ ap spaced same)
