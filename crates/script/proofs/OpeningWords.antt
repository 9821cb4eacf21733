-- The words of an opening.
use Rattle.std.proofs.Common.{◌≡◌, ℕ, List, get_or, codes, sym, refl, ap, ◌∙◌, subst, arith}
use Rattle.std.specs.List.{AllByRecursion}
use Rattle.script.specs.declared.verbs.Verb.{Verb}
use Rattle.script.specs.declared.verbs.Verb.TheVariants.{Line, Tree, Open, Enrol, Admit, Withdraw, Replan, Start, Rest, Show}
use Rattle.script.specs.Openings.{opening_words, IsOpening}
use Rattle.script.specs.Verbs.{verb_word}
use Rattle.script.specs.Words.{Short, IsWord, parts, spaced}
use Rattle.script.proofs.KindWords.{verb_is, number_is, parts_are}
use Rattle.script.proofs.PartLists.{spaced_parts}

pub opening_parts : (line : List ℕ) (period : ℕ) → IsOpening line period → parts line ≡ opening_words period
opening_parts line period (short, same) =
    parts_are line (opening_words period) (omega arith) (verb_is Open, (number_is period short, tt)) same

pub parts_words : (line : List ℕ) (period : ℕ) → IsOpening line period → AllByRecursion IsWord (parts line)
parts_words line period is =
    subst (AllByRecursion IsWord) (sym (opening_parts line period is)) (verb_is Open, (number_is period is.0, tt))

pub opened_parts : (line : List ℕ) (period : ℕ) → Short period → parts line ≡ opening_words period → IsOpening line period
opened_parts line period short same = (short, sym (spaced_parts line) ∙ ap spaced same)

-- no other verb is spelled so
pub open_only : (verb : Verb) → codes "open" ≡ verb_word verb → verb ≡ Open
open_only Line e = absurd (omega (arith, ap (λ word. get_or word 1 0) e))
open_only Tree e = absurd (omega (arith, ap (λ word. get_or word 1 0) e))
open_only Open e = refl
open_only Enrol e = absurd (omega (arith, ap (λ word. get_or word 1 0) e))
open_only Admit e = absurd (omega (arith, ap (λ word. get_or word 1 0) e))
open_only Withdraw e = absurd (omega (arith, ap (λ word. get_or word 1 0) e))
open_only Replan e = absurd (omega (arith, ap (λ word. get_or word 1 0) e))
open_only Start e = absurd (omega (arith, ap (λ word. get_or word 1 0) e))
open_only Rest e = absurd (omega (arith, ap (λ word. get_or word 1 0) e))
open_only Show e = absurd (omega (arith, ap (λ word. get_or word 1 0) e))
