-- The words of descriptions.
use Rattle.std.proofs.Common.{◌≡◌, ℕ, List, [], ◌∷◌, map, length, decimal, sym, ap, ◌∙◌, subst, arith}
use Rattle.std.specs.List.{AllByRecursion}
use Rattle.std.proofs.ByRecursion.{All-map, All-weaker}
use Rattle.script.specs.declared.descriptions.Description.{Description}
use Rattle.script.specs.declared.descriptions.Description.TheVariants.{Line, Tree, LongTree}
use Rattle.script.specs.declared.marks.Mark.{Mark}
use Rattle.script.specs.declared.marks.Marks.{Marks}
use Rattle.script.specs.declared.verbs.Verb.{Verb}
use Rattle.script.specs.declared.verbs.Verb.TheVariants as verbs
use Rattle.script.specs.Descriptions.{held, Described, IsDescription}
use Rattle.script.specs.Marks.{Stands, Marked, After}
use Rattle.script.specs.Verbs.{verb_word}
use Rattle.script.specs.Words.{IsWord, parts, Short}
use Rattle.script.proofs.FormWords.{after}
use Rattle.script.proofs.KindWords.{verb_is, number_is, parts_are}
use Rattle.script.proofs.PartLists.{some_part, spaced_parts}

numbers_are : (ns : List ℕ) → AllByRecursion Short ns → AllByRecursion IsWord (map decimal ns)
numbers_are ns short = All-map IsWord decimal ns (All-weaker Short (λ n. IsWord (decimal n)) number_is ns short)

-- the words begin with a verb, and each is a word
pub record Formed (words : List (List ℕ)) : Type 0 where
  pub verb : Verb
  pub others : List (List ℕ)
  pub first : words ≡ verb_word verb ∷ others
  pub each : AllByRecursion IsWord others

pub formed : (fabric : Description) (words : List (List ℕ)) → Described fabric words → Formed words
formed (Line terminals) words (short, same) =
    record { verb = verbs.Line; others = decimal terminals ∷ []; first = same; each = (number_is terminals short, tt) }
formed (Tree parents) words (short, same) =
    record { verb = verbs.Tree; others = map decimal (held parents); first = same; each = numbers_are (held parents) short }
formed LongTree words (parents, long, short, same) =
    record { verb = verbs.Tree; others = map decimal parents; first = same; each = numbers_are parents short }

module _ (line : List ℕ) (fabric : Description) where
  pub described_parts : Described fabric (parts line) → IsDescription line fabric
  described_parts described = (parts line, described, sym (spaced_parts line))

  module _ (is : IsDescription line fabric) where
    same : parts line ≡ is.0
    same =
        let form = formed fabric is.0 is.1 in
        let each = subst (AllByRecursion IsWord) (sym form.first) (verb_is form.verb, form.each) in
        parts_are line is.0 (omega (arith, ap length form.first)) each is.2

    pub description_parts : Described fabric (parts line)
    description_parts = subst (Described fabric) (sym same) is.1

    pub parts_words : AllByRecursion IsWord (parts line)
    parts_words =
        let form = formed fabric (parts line) description_parts in
        subst (AllByRecursion IsWord) (sym form.first) (verb_is form.verb, form.each)

-- what is said of the words after the first, said of all of them
module _ (line : List ℕ) (marks : Marks) (marked : Marked line marks (parts line))
    (slice rest : List Mark) (first : Mark) (all : slice ≡ marks.first.items) (whole : slice ≡ first ∷ rest) (verb : Verb) (here : Stands line first (verb_word verb)) where
  words : (us : List (List ℕ)) → parts line ≡ us → (others : List (List ℕ)) × (parts line ≡ verb_word verb ∷ others) × After line rest marks.beyond others
  words [] same = absurd (some_part line same)
  words (u ∷ us) same =
      let cut = after line marks marked slice rest first all whole verb here u us same in
      (us, same ∙ (λ i. cut.0 i ∷ us), cut.1)

  pub others : (others : List (List ℕ)) × (parts line ≡ verb_word verb ∷ others) × After line rest marks.beyond others
  others = words (parts line) (λ i. parts line)
