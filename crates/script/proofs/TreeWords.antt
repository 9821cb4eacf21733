-- The parents of a tree, as a loop over the marks reads them.
use Rattle.std.proofs.Common.{◌≡◌, ℕ, zero, suc, ◌+◌, ◌<◌, ◌≤◌, List, [], ◌∷◌, ◌++◌, map, length, replicate, get_or, take, drop, set, codes, decimal, sym, refl, ap, ◌∙◌, subst, ⊎_elim, arith, length-drop, length-take}
use lib.ListN.{length-map}
use Rattle.std.specs.List.{AllByRecursion}
use Rattle.std.proofs.ByRecursion.{All-get_or, All-from_get_or, All-append}
use Rattle.std.proofs.lemmas.List.{take-append-drop, take_all, get_or-take, get_or-drop, get_or-map, map-append, length-take-le, get_or-set_same, get_or-set_other, length-set}
use Rattle.std.proofs.lemmas.Bool.{cases_eq}
use Rattle.script.specs.declared.descriptions.Description.{Description}
use Rattle.script.specs.declared.descriptions.Description.TheVariants.{Line, Tree, LongTree}
use Rattle.script.specs.declared.marks.Beyond.{Beyond}
use Rattle.script.specs.declared.marks.Beyond.TheVariants.{Nothing, Numbers, Names}
use Rattle.script.specs.declared.marks.Mark.{Mark}
use Rattle.script.specs.declared.words.Kind.TheVariants as kinds
use Rattle.script.specs.Descriptions.{held, tree_words, Described}
use Rattle.script.specs.Marks.{Stands, Stand, Past, After}
use Rattle.script.specs.Words.{IsNumber, Short}
use Rattle.script.proofs.FormWords.{same_stand}
use Rattle.script.proofs.MarkLists.{stand_length, stand_at}
use Rattle.script.proofs.KindWords.{apart}

abbrev blank : Mark
blank = record { kind = kinds.Name; from = 0; to = 0 }

-- the numbers at the first n marks stand in the room, and 0 after them
abbrev pub NumbersRead : List ℕ → List Mark → List ℕ → ℕ → Type 0
NumbersRead line marks room n =
    (length room ≡ 127) × ((k : ℕ) → k < n → Short (get_or room k 0) × Stands line (get_or marks k blank) (decimal (get_or room k 0)))
    × ((k : ℕ) → n ≤ k → get_or room k 0 ≡ 0)

free_room : (m k : ℕ) → ◌≡◌ {A = ℕ} (get_or (replicate m 0) k 0) 0
free_room zero k = refl
free_room (suc m) zero = refl
free_room (suc m) (suc k) = free_room m k

pub none_read : (line : List ℕ) (marks : List Mark) → NumbersRead line marks (replicate 127 0) 0
none_read line marks = (refl, λ k less. absurd (omega arith), λ k past. free_room 127 k)

-- the number m stands at mark k
abbrev Read : List ℕ → List Mark → ℕ → ℕ → Type 0
Read line marks k m = Short m × Stands line (get_or marks k blank) (decimal m)

pub one_more : (line : List ℕ) (marks : List Mark) (room : List ℕ) (n number : ℕ) → n < 127 → NumbersRead line marks room n → Short number → Stands line (get_or marks n blank) (decimal number) → NumbersRead line marks (set room n number) (n + 1)
one_more line marks room n number fits (wide, read, free) short here = (
  omega (arith, length-set room n number),
  λ k less. ⊎_elim (at_n k) (before k less) (cases_eq k n),
  λ k past. get_or-set_other room n k number 0 (λ same. omega (arith, same)) ∙ free k (omega arith),
)
  where
    at_n : (k : ℕ) → k ≡ n → Read line marks k (get_or (set room n number) k 0)
    at_n k same =
        subst (λ j. Read line marks j (get_or (set room n number) j 0)) (sym same) (subst (Read line marks n) (sym (get_or-set_same room n number 0 (omega arith))) (short, here))

    before : (k : ℕ) → k < n + 1 → (k ≡ n → ⊥) → Read line marks k (get_or (set room n number) k 0)
    before k less other = subst (Read line marks k) (sym (get_or-set_other room n k number 0 other)) (read k (omega arith))

numbers_stand : (line : List ℕ) (marks : List Mark) (ns : List ℕ) → length marks ≡ length ns → ((k : ℕ) → k < length ns → Stands line (get_or marks k blank) (decimal (get_or ns k 0))) → Stand line marks (map decimal ns)
numbers_stand line [] [] same each = tt
numbers_stand line [] (n ∷ ns) same each = absurd (omega arith)
numbers_stand line (mark ∷ marks) [] same each = absurd (omega arith)
numbers_stand line (mark ∷ marks) (n ∷ ns) same each =
    (each 0 (omega arith), numbers_stand line marks ns (omega arith) (λ k less. each (suc k) (omega arith)))

-- what the words after `tree` are
pub tree_numbers : (tree : Description) (words : List (List ℕ)) → Described tree (codes "tree" ∷ words) → (ps : List ℕ) × AllByRecursion Short ps × (words ≡ map decimal ps)
tree_numbers (Line terminals) words (short, same) = absurd (omega (arith, ap (λ ws. get_or (get_or ws 0 []) 0 0) same))
tree_numbers (Tree parents) words (short, same) = (held parents, short, ap (drop 1) same)
tree_numbers LongTree words (ps, long, short, same) = (ps, short, ap (drop 1) same)

number_in : (ps : List ℕ) (k : ℕ) → k < length ps → AllByRecursion Short ps → (n : ℕ) × Short n × (get_or (map decimal ps) k [] ≡ decimal n)
number_in ps k inside short = (get_or ps k 0, All-get_or Short ps k 0 inside short, get_or-map decimal ps k 0 [] inside)

all_numbers : (words : List (List ℕ)) → AllByRecursion IsNumber words → (ns : List ℕ) × AllByRecursion Short ns × (words ≡ map decimal ns)
all_numbers [] each = ([], tt, refl)
all_numbers (word ∷ words) ((n, short, same), each) =
    let more = all_numbers words each in
    (n ∷ more.0, (short, more.1), (λ i. same i ∷ more.2 i))

-- one mark stands for one word
pub sole : (line : List ℕ) (marks : List Mark) (beyond : Beyond) (word : List ℕ) → Stand line marks (word ∷ []) → (words : List (List ℕ)) → After line marks beyond words → words ≡ word ∷ []
sole line marks beyond word stand words after =
    let front = same_stand line marks (take 127 words) (word ∷ []) after.marked stand in
    sym (take_all 127 words (omega (arith, ap length front, length-take 127 words))) ∙ front

module _ (line : List ℕ) (marks : List Mark) (beyond : Beyond) (few : length marks ≤ 127) where
  -- a mark at which no number stands
  pub no_number : (at : ℕ) → at < length marks → ((n : ℕ) → Short n → Stands line (get_or marks at blank) (decimal n) → ⊥) → (words : List (List ℕ)) → After line marks beyond words → (tree : Description) → Described tree (codes "tree" ∷ words) → ⊥
  no_number at inside none words after tree is =
      let parents = tree_numbers tree words is in
      let long = stand_length line marks (take 127 words) after.marked ∙ length-take 127 words in
      let same_length = ap length parents.2 ∙ length-map parents.0 decimal in
      let number = number_in parents.0 at (omega arith) parents.1 in
      let word : get_or (take 127 words) at [] ≡ decimal number.0 = get_or-take 127 words at [] (omega arith) ∙ ap (λ ws. get_or ws at []) parents.2 ∙ number.2 in
      none number.0 number.1 (subst (Stands line (get_or marks at blank)) word (stand_at line marks (take 127 words) at blank after.marked inside))

  -- a name past the marks
  pub no_tree : beyond ≡ Names → (words : List (List ℕ)) → After line marks beyond words → (tree : Description) → Described tree (codes "tree" ∷ words) → ⊥
  no_tree names words after tree is =
      let parents = tree_numbers tree words is in
      let past = subst (λ b. Past b (drop 127 words)) names after.past in
      let same_length = ap length parents.2 ∙ length-map parents.0 decimal in
      let inside : 127 + past.0 < length parents.0 = omega (arith, past.1, length-drop 127 words) in
      let number = number_in parents.0 (127 + past.0) inside parents.1 in
      apart (get_or (drop 127 words) past.0 []) past.2 (number.0, number.1, get_or-drop 127 words past.0 [] ∙ ap (λ ws. get_or ws (127 + past.0) []) parents.2 ∙ number.2)

  module _ (room : List ℕ) (n : ℕ) (end : n ≡ length marks) (read : NumbersRead line marks room n) where
    abbrev ns : List ℕ
    ns = take (length marks) room

    long : length ns ≡ length marks
    long = length-take-le (length marks) room (omega (arith, read.0))

    short : AllByRecursion Short ns
    short = All-from_get_or Short ns 0 (λ k inside. subst Short (sym (get_or-take (length marks) room k 0 (omega (arith, long)))) (read.1 k (omega (arith, long))).0)

    same : (words : List (List ℕ)) → After line marks beyond words → take 127 words ≡ map decimal ns
    same words after =
        same_stand line marks (take 127 words) (map decimal ns) after.marked (numbers_stand line marks ns (sym long) (λ k inside. subst (λ m. Stands line (get_or marks k blank) (decimal m)) (sym (get_or-take (length marks) room k 0 (omega (arith, long)))) (read.1 k (omega (arith, long))).1))

    pub short_tree : beyond ≡ Nothing → (words : List (List ℕ)) → After line marks beyond words → AllByRecursion Short ns × (codes "tree" ∷ words ≡ tree_words ns)
    short_tree nothing words after =
        let none = subst (λ b. Past b (drop 127 words)) nothing after.past in
        let all = take_all 127 words (omega (arith, ap length none, length-drop 127 words)) in
        (short, (λ i. codes "tree" ∷ (sym all ∙ same words after) i))

    pub long_tree : beyond ≡ Numbers → (words : List (List ℕ)) → After line marks beyond words → Described LongTree (codes "tree" ∷ words)
    long_tree numbers words after =
        let past = subst (λ b. Past b (drop 127 words)) numbers after.past in
        let others = all_numbers (drop 127 words) past.1 in
        let whole : words ≡ map decimal (ns ++ others.0) = sym (take-append-drop 127 words) ∙ (λ i. same words after i ++ others.2 i) ∙ sym (map-append decimal ns others.0) in
        let many = ap length whole ∙ length-map (ns ++ others.0) decimal in
        (ns ++ others.0, omega (arith, past.0, length-drop 127 words), All-append Short ns others.0 short others.1, (λ i. codes "tree" ∷ whole i))
