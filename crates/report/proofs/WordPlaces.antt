-- Words by their places, as a reader gives them.
use Rattle.std.proofs.Common.{◌≡◌, ℕ, ◌+◌, ◌<◌, [], ◌∷◌, length, get_or, drop, Some, sym, ap, ◌∙◌, subst}
use Rattle.std.proofs.lemmas.List.{drop_more}
use Rattle.report.specs.declared.words.Word.{Word}
use Rattle.report.specs.declared.words.Words.{Words}
use Rattle.report.specs.Words.{all_of, Takes}

-- a reader of the words of s gave a word at a place, and goes on after it
pub record Taken (s after : Words) (at : ℕ) (word : Word) : Type 0 where
  pub same : all_of after ≡ all_of s
  pub next : after.at ≡ at + 1
  pub inside : at < length (all_of s)
  pub place : word.place ≡ at
  pub text : get_or (all_of s) at [] ≡ word.text.now

pub taken : (s r after : Words) → all_of r ≡ all_of s → (word : Word) → Takes r (Some word) after → Taken s after r.at word
taken s r after same word takes = record {
  same = ap all_of takes.3 ∙ same;
  next = ap (λ w. w.at) takes.3;
  inside = subst (λ l. r.at < length l) same takes.0;
  place = takes.1;
  text = sym (takes.2 ∙ ap (λ l. get_or l r.at []) same);
}

pub one : (s after : Words) (at : ℕ) (a : Word) → Taken s after at a → drop at (all_of s) ≡ a.text.now ∷ drop after.at (all_of s)
one s after at a t =
    drop_more (all_of s) at [] t.inside ∙ (λ i. t.text i ∷ drop (sym t.next i) (all_of s))

pub two : (s mid after : Words) (at : ℕ) (a b : Word) → Taken s mid at a → Taken s after mid.at b → drop at (all_of s) ≡ a.text.now ∷ b.text.now ∷ drop after.at (all_of s)
two s mid after at a b first second =
    one s mid at a first ∙ ap (λ l. a.text.now ∷ l) (one s after mid.at b second)
