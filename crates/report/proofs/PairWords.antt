-- The words of the pairs, read two at a time.
use Rattle.std.proofs.Common.{◌≡◌, ℕ, ◌+◌, ◌*◌, List, [], ◌∷◌, ◌++◌, length, drop, decimal, refl, ap, ◌∙◌, arith}
use Rattle.std.specs.List.{AllByRecursion}
use Rattle.std.proofs.ByRecursion.{All-push}
use Rattle.std.proofs.lemmas.List.{length_push}
use Rattle.fabric.specs.declared.pairs.Pair.{Pair}
use Rattle.report.specs.Requests.{pair_words, ShortPair}
use Rattle.report.specs.Words.{all_of}
use Rattle.report.specs.declared.words.Word.{Word}
use Rattle.report.specs.declared.words.Words.{Words}
use Rattle.report.proofs.WordPlaces.{Taken, two}

push : (ps : List Pair) (p : Pair) (rest : List (List ℕ)) → pair_words ps ++ (decimal p.source ∷ decimal p.destination ∷ rest) ≡ pair_words (ps ++ p ∷ []) ++ rest
push [] p rest = refl
push (q ∷ ps) p rest = ap (λ l. decimal q.source ∷ decimal q.destination ∷ l) (push ps p rest)

-- the words from one place up to another are those of the pairs so far
abbrev pub Read : List (List ℕ) → ℕ → List Pair → ℕ → Type 0
Read ws from ps at = AllByRecursion ShortPair ps × (at ≡ from + 2 * length ps) × (drop from ws ≡ pair_words ps ++ drop at ws)

-- one pair more is read
pub one_more : (s mid after : Words) (from at : ℕ) (a b : Word) (ps : List Pair) (p : Pair) → Read (all_of s) from ps at → Taken s mid at a → Taken s after mid.at b → ShortPair p → a.text.now ≡ decimal p.source → b.text.now ≡ decimal p.destination → Read (all_of s) from (ps ++ p ∷ []) after.at
one_more s mid after from at a b ps p (short, place, before) first second small source destination = (
  All-push ShortPair ps p short small,
  omega (arith, length_push ps p, first.next, second.next),
  before
      ∙ ap (λ l. pair_words ps ++ l) (two s mid after at a b first second ∙ (λ i. source i ∷ destination i ∷ drop after.at (all_of s)))
      ∙ push ps p (drop after.at (all_of s)),
)
