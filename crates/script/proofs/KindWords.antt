-- The words of a script, of either kind.
use Rattle.std.proofs.Common.{◌≡◌, ℕ, ◌≤◌, List, [], ◌∷◌, length, get_or, decimal, sym, refl, ap, ◌∙◌, subst, arith}
use Rattle.std.specs.List.{AllByRecursion}
use Rattle.std.proofs.ByRecursion.{All-weaker}
use Rattle.std.proofs.lemmas.Fmt.{digits_decimal, decimal_nonempty}
use Rattle.std.proofs.lemmas.List.{get_or_default}
use Rattle.std.proofs.lemmas.Str.Parse.{digit_at}
use Rattle.decimals.proofs.NumberWords.{own}
use Rattle.labels.specs.Names.{spelled}
use Rattle.labels.specs.Spellings.{Spelling}
use Rattle.labels.specs.declared.names.Name.{Name as Called}
use Rattle.script.specs.declared.words.Kind.TheVariants.{Name, Number}
use Rattle.script.specs.declared.verbs.Verb.{Verb}
use Rattle.script.specs.Verbs.{verb_word}
use Rattle.script.specs.Words.{Short, IsNumber, IsWord, WordsOf, parts, spaced}
use Rattle.script.proofs.PartLists.{Free, parts_spaced}
use Rattle.script.proofs.VerbWords.{verb_spelling}

pub verb_is : (verb : Verb) → IsWord (verb_word verb)
verb_is verb = (Name, verb_spelling verb)

pub name_is : (name : Called) → IsWord (spelled name)
name_is name = (Name, name.spells)

pub number_is : (n : ℕ) → Short n → IsWord (decimal n)
number_is n small = (Number, (n, small, refl))

-- no word has a space
word_free : (word : List ℕ) → IsWord word → Free word
word_free word (Name, name) = λ k d inside space. omega (arith, (name.2 k inside).0, get_or_default word k 0 d inside)
word_free word (Number, (n, small, e)) =
    subst Free (sym e) (λ k d inside space.
    omega (arith, (digit_at (decimal n) k (digits_decimal own n (omega arith)) inside).0, get_or_default (decimal n) k 0 d inside))

-- no word is both a name and a number: a letter is no digit
pub apart : (word : List ℕ) → Spelling word → IsNumber word → ⊥
apart word name (n, small, e) =
    let digit = digit_at (decimal n) 0 (digits_decimal own n (omega arith)) (decimal_nonempty n (omega arith)) in
    omega (arith, digit.1, (name.2 0 name.0).0, ap (λ l. get_or l 0 0) e)

-- the words of a line are its parts
pub parts_are : (line : List ℕ) (words : List (List ℕ)) → 1 ≤ length words → AllByRecursion IsWord words → line ≡ spaced words → parts line ≡ words
parts_are line [] some all same = absurd (omega arith)
parts_are line (word ∷ words) some all same =
    ap parts same ∙ parts_spaced word words (word_free word all.0) (All-weaker IsWord Free word_free words all.1)

-- so a line is words in one way
pub same_words : (line : List ℕ) (us vs : List (List ℕ)) → WordsOf line us → WordsOf line vs → us ≡ vs
same_words line us vs p q = sym (parts_are line us p.some p.each p.whole) ∙ parts_are line vs q.some q.each q.whole
