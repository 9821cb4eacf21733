-- Marks that are kept one after another.
use Rattle.std.proofs.Common.{◌≡◌, ℕ, zero, suc, ◌<◌, ◌≤◌, min, ◌⊎◌, List, [], ◌∷◌, ◌++◌, length, get_or, take, drop, sym, refl, ◌∙◌, subst, inl, inr, arith, length-take, ◌==◌, false, ne_eqb, MatchOption}
use Rattle.std.specs.Bool.{then_some}
use Rattle.std.specs.List.{AllByRecursion}
use Rattle.std.proofs.ByRecursion.{All-push}
use Rattle.std.proofs.lemmas.List.{length_push, get_or_push, get_or_append_left, take_all, drop_all, take-append-le, drop-append-le}
use Rattle.labels.specs.Spellings.{Spelling}
use Rattle.script.specs.declared.marks.Beyond.{Beyond}
use Rattle.script.specs.declared.marks.Beyond.TheVariants.{Nothing, Numbers, Names}
use Rattle.script.specs.declared.marks.Mark.{Mark}
use Rattle.script.specs.declared.marks.Marks.{Marks}
use Rattle.script.specs.Words.{IsNumber}
use Rattle.script.specs.Marks.{Stands, Stand, Past, Marked}

-- what is past the room, with one word more
pub a_name : (words : List (List ℕ)) (word : List ℕ) → Spelling word → Past Names (words ++ word ∷ [])
a_name words word name =
    (length words, omega (arith, length_push words word), subst Spelling (sym (get_or_push words word [] (length words) refl)) name)

pub still_names : (words : List (List ℕ)) (word : List ℕ) → Past Names words → Past Names (words ++ word ∷ [])
still_names words word (k, inside, name) =
    (k, omega (arith, length_push words word), subst Spelling (sym (get_or_append_left words (word ∷ []) [] k inside)) name)

pub a_number : (b : Beyond) (words : List (List ℕ)) (word : List ℕ) → (b ≡ Nothing) ⊎ (b ≡ Numbers) → Past b words → IsNumber word → Past Numbers (words ++ word ∷ [])
a_number b words word (inl e) past number =
    let none = subst (λ x. Past x words) e past in
    (omega (arith, length_push words word), subst (λ ws. AllByRecursion IsNumber (ws ++ word ∷ [])) (sym none) (number, tt))
a_number b words word (inr e) past number =
    let numbers = subst (λ x. Past x words) e past in
    (omega (arith, length_push words word), All-push IsNumber words word numbers.1 number)

pub stand_length : (line : List ℕ) (marks : List Mark) (words : List (List ℕ)) → Stand line marks words → length marks ≡ length words
stand_length line [] [] h = refl
stand_length line [] (word ∷ words) h = absurd h
stand_length line (mark ∷ marks) [] h = absurd h
stand_length line (mark ∷ marks) (word ∷ words) h = omega (arith, stand_length line marks words h.1)

-- no words stand exactly at no marks
pub none_stand : {X : Type 0} (marks : List Mark) (value : X) → MatchOption (then_some (length marks == 0) value) ((line : List ℕ) → Stand line marks [] → ⊥) (λ found. (found ≡ value) × ((line : List ℕ) → Stand line marks []))
none_stand [] value = (refl, λ line. tt)
none_stand (mark ∷ marks) value =
    let some : (length (mark ∷ marks) == 0) ≡ false = ne_eqb (length (mark ∷ marks)) 0 (λ none. omega (arith, none)) in
    subst (λ none. MatchOption (then_some none value) ((line : List ℕ) → Stand line (mark ∷ marks) [] → ⊥) (λ found. (found ≡ value) × ((line : List ℕ) → Stand line (mark ∷ marks) []))) (sym some) (λ line stand. stand)

pub stand_at : (line : List ℕ) (marks : List Mark) (words : List (List ℕ)) (k : ℕ) (d : Mark) → Stand line marks words → k < length marks → Stands line (get_or marks k d) (get_or words k [])
stand_at line [] words k d h inside = absurd (omega arith)
stand_at line (mark ∷ marks) [] k d h inside = absurd h
stand_at line (mark ∷ marks) (word ∷ words) zero d h inside = h.0
stand_at line (mark ∷ marks) (word ∷ words) (suc k) d h inside = stand_at line marks words k d h.1 (omega arith)

pub stand_one : (line : List ℕ) (marks : List Mark) (d : Mark) (a : List ℕ) → length marks ≡ 1 → Stands line (get_or marks 0 d) a → Stand line marks (a ∷ [])
stand_one line [] d a long here = absurd (omega arith)
stand_one line (m ∷ []) d a long here = (here, tt)
stand_one line (m ∷ n ∷ marks) d a long here = absurd (omega arith)

pub stand_five : (line : List ℕ) (marks : List Mark) (d : Mark) (a b c e f : List ℕ) → length marks ≡ 5 → Stands line (get_or marks 0 d) a → Stands line (get_or marks 1 d) b → Stands line (get_or marks 2 d) c → Stands line (get_or marks 3 d) e → Stands line (get_or marks 4 d) f → Stand line marks (a ∷ b ∷ c ∷ e ∷ f ∷ [])
stand_five line [] d a b c e f long ha hb hc he hf = absurd (omega arith)
stand_five line (k ∷ []) d a b c e f long ha hb hc he hf = absurd (omega arith)
stand_five line (k ∷ l ∷ []) d a b c e f long ha hb hc he hf = absurd (omega arith)
stand_five line (k ∷ l ∷ m ∷ []) d a b c e f long ha hb hc he hf = absurd (omega arith)
stand_five line (k ∷ l ∷ m ∷ n ∷ []) d a b c e f long ha hb hc he hf = absurd (omega arith)
stand_five line (k ∷ l ∷ m ∷ n ∷ o ∷ []) d a b c e f long ha hb hc he hf = (ha, (hb, (hc, (he, (hf, tt)))))
stand_five line (k ∷ l ∷ m ∷ n ∷ o ∷ p ∷ marks) d a b c e f long ha hb hc he hf = absurd (omega arith)

stand_push : (line : List ℕ) (marks : List Mark) (words : List (List ℕ)) (mark : Mark) (word : List ℕ) → Stand line marks words → Stands line mark word → Stand line (marks ++ mark ∷ []) (words ++ word ∷ [])
stand_push line [] [] mark word h here = (here, tt)
stand_push line [] (w ∷ words) mark word h here = absurd h
stand_push line (m ∷ marks) [] mark word h here = absurd h
stand_push line (m ∷ marks) (w ∷ words) mark word h here = (h.0, stand_push line marks words mark word h.1 here)

module _ (line : List ℕ) (marks next : Marks) (words : List (List ℕ)) (mark : Mark) (word : List ℕ) (old : Marked line marks words) (here : Stands line mark word) where
  length_first : length marks.first.items ≡ min 128 (length words)
  length_first = stand_length line marks.first.items (take 128 words) old.first ∙ length-take 128 words

  pub kept_more : length marks.first.items < 128 → next.first.items ≡ marks.first.items ++ mark ∷ [] → next.beyond ≡ marks.beyond → Marked line next (words ++ word ∷ [])
  kept_more few same beyond =
      let all = take_all 128 words (omega (arith, length_first)) in
      record {
        first = subst (λ ms. Stand line ms (take 128 (words ++ word ∷ []))) (sym same) (subst (Stand line (marks.first.items ++ mark ∷ [])) (sym (take_all 128 (words ++ word ∷ []) (omega (arith, length_first, length_push words word)))) (stand_push line marks.first.items words mark word (subst (Stand line marks.first.items) all old.first) here));
        past = subst (λ b. Past b (drop 128 (words ++ word ∷ []))) (sym beyond) (subst (Past marks.beyond) (drop_all 128 words (omega (arith, length_first)) ∙ sym (drop_all 128 (words ++ word ∷ []) (omega (arith, length_first, length_push words word)))) old.past);
      }

  pub past_more : length marks.first.items ≡ 128 → next.first.items ≡ marks.first.items → ((ws : List (List ℕ)) → Past marks.beyond ws → Past next.beyond (ws ++ word ∷ [])) → Marked line next (words ++ word ∷ [])
  past_more full same beyond =
      let many : 128 ≤ length words = omega (arith, length_first) in
      record {
        first = subst (λ ms. Stand line ms (take 128 (words ++ word ∷ []))) (sym same) (subst (Stand line marks.first.items) (sym (take-append-le 128 words (word ∷ []) many)) old.first);
        past = subst (Past next.beyond) (sym (drop-append-le 128 words (word ∷ []) many)) (beyond (drop 128 words) old.past);
      }
