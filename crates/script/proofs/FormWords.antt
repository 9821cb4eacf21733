-- What a line that is marked can spell: the words that stand at its marks, if they are few.
use Rattle.std.proofs.Common.{◌≡◌, ℕ, ◌<◌, ◌≤◌, List, [], ◌∷◌, length, take, sym, refl, ap, ◌∙◌, subst, arith, length-take}
use Rattle.std.proofs.lemmas.List.{take_all}
use Rattle.script.specs.declared.marks.Mark.{Mark}
use Rattle.script.specs.declared.marks.Marks.{Marks}
use Rattle.script.specs.declared.verbs.Verb.{Verb}
use Rattle.script.specs.Words.{parts}
use Rattle.script.specs.Marks.{Stands, Stand, Marked, After}
use Rattle.script.specs.Verbs.{verb_word, Follows}

-- one word stands at a mark
pub same_stand : (line : List ℕ) (marks : List Mark) (us vs : List (List ℕ)) → Stand line marks us → Stand line marks vs → us ≡ vs
same_stand line [] [] [] p q = refl
same_stand line [] [] (v ∷ vs) p q = absurd q
same_stand line [] (u ∷ us) vs p q = absurd p
same_stand line (mark ∷ marks) [] vs p q = absurd p
same_stand line (mark ∷ marks) (u ∷ us) [] p q = absurd q
same_stand line (mark ∷ marks) (u ∷ us) (v ∷ vs) p q =
    let first = sym p.0.here ∙ q.0.here in
    let rest = same_stand line marks us vs p.1 q.1 in
    (λ i. first i ∷ rest i)

module _ (line : List ℕ) (marks : Marks) (marked : Marked line marks (parts line)) where
  -- few words of a line stand at its marks
  pub stands : (us : List (List ℕ)) → parts line ≡ us → length us ≤ 128 → Stand line marks.first.items us
  stands us same few = subst (Stand line marks.first.items) (ap (take 128) same ∙ take_all 128 us few) marked.first

  -- and what stands there is the line
  pub told : (us : List (List ℕ)) → length us < 128 → Stand line marks.first.items us → parts line ≡ us
  told us few stand =
      let front = same_stand line marks.first.items (take 128 (parts line)) us marked.first stand in
      let short : length (parts line) ≤ 128 = omega (arith, ap length front, length-take 128 (parts line)) in
      sym (take_all 128 (parts line) short) ∙ front

  module _ (slice rest : List Mark) (first : Mark) (all : slice ≡ marks.first.items) (whole : slice ≡ first ∷ rest) (verb : Verb) (here : Stands line first (verb_word verb)) where
    cut : marks.first.items ≡ first ∷ rest
    cut = sym all ∙ whole

    pub told_by : (us : List (List ℕ)) → length us < 128 → Follows line verb rest us → parts line ≡ us
    told_by [] few follows = absurd follows
    told_by (u ∷ us) few follows =
        told (u ∷ us) few (subst (λ ms. Stand line ms (u ∷ us)) (sym cut) (subst (Stands line first) (sym follows.0) here, follows.1))

    pub follows : (us : List (List ℕ)) → 1 ≤ length us → parts line ≡ us → length us ≤ 128 → Follows line verb rest us
    follows [] some same few = absurd (omega arith)
    follows (u ∷ us) some same few =
        let stand = subst (λ ms. Stand line ms (u ∷ us)) cut (stands (u ∷ us) same few) in
        (sym stand.0.here ∙ here.here, stand.1)

    -- the first word stands at the first mark, and the others after it
    pub after : (u : List ℕ) (us : List (List ℕ)) → parts line ≡ u ∷ us → (u ≡ verb_word verb) × After line rest marks.beyond us
    after u us same =
        let one = subst (Marked line marks) same marked in
        let stand = subst (λ ms. Stand line ms (u ∷ take 127 us)) cut one.first in
        (sym stand.0.here ∙ here.here, record { marked = stand.1; past = one.past })

  -- without a verb at the first mark no words are spelled that begin with one
  pub no_verb : (slice : List Mark) → slice ≡ marks.first.items → ((verb : Verb) (words : List (List ℕ)) → Stand line slice (verb_word verb ∷ words) → ⊥) → (verb : Verb) (us : List (List ℕ)) → parts line ≡ verb_word verb ∷ us → ⊥
  no_verb slice all none verb us same =
      none verb (take 127 us) (subst (λ ms. Stand line ms (verb_word verb ∷ take 127 us)) (sym all) (subst (Marked line marks) same marked).first)
