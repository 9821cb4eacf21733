-- The parts of a line between its spaces.
use Rattle.std.proofs.Common.{◌≡◌, ℕ, suc, ◌+◌, ◌≤◌, ◌==◌, false, List, [], ◌∷◌, ◌++◌, length, get_or, take, drop, codes, All, Some, None, Option, MatchOption, sym, refl, ap, ◌∙◌, ⊎_elim, ne_eqb, eq-eqb, arith, append-nil, length-append, length-drop}
use Rattle.std.specs.List.{AllByRecursion, flat_map, onto_first}
use Rattle.std.proofs.lemmas.List.{drop-drop, take_all, take-append-le}
use Rattle.std.proofs.lemmas.Bool.{cases_eq}
use Rattle.std.proofs.lemmas.List.Splits.{length-slice_split, slice_split_none, slice_split_at, slice_split-cons_yes, slice_split-cons_no}
use Rattle.script.specs.Words.{spaced, parts}

-- no space is among the bytes
abbrev pub Free : List ℕ → Type 0
Free word = All (λ byte. byte ≡ 32 → ⊥) word

tested : (word : List ℕ) → Free word → All (λ byte. (byte == 32) ≡ false) word
tested word free k d inside = ne_eqb (get_or word k d) 32 (free k d inside)

-- a line has a part
pub some_part : (line : List ℕ) → parts line ≡ [] → ⊥
some_part line none = omega (arith, length-slice_split (λ byte. byte == 32) line, ap length none)

-- the parts, with spaces between them, are the line
onto : (byte : ℕ) (all : List (List ℕ)) → 1 ≤ length all → spaced (onto_first byte all) ≡ byte ∷ spaced all
onto byte [] some = absurd (omega arith)
onto byte (first ∷ rest) some = refl

more_parts : (all : List (List ℕ)) → 1 ≤ length all → spaced ([] ∷ all) ≡ 32 ∷ spaced all
more_parts [] some = absurd (omega arith)
more_parts (first ∷ rest) some = refl

one_byte_more : (byte : ℕ) (line : List ℕ) → spaced (parts line) ≡ line → spaced (parts (byte ∷ line)) ≡ byte ∷ line
one_byte_more byte line whole = ⊎_elim at_space within (cases_eq byte 32)
  where
    some : 1 ≤ length (parts line)
    some = omega (arith, length-slice_split (λ b. b == 32) line)

    at_space : byte ≡ 32 → spaced (parts (byte ∷ line)) ≡ byte ∷ line
    at_space same =
        ap spaced (slice_split-cons_yes (λ b. b == 32) byte line (eq-eqb byte 32 same)) ∙ more_parts (parts line) some ∙ (λ i. sym same i ∷ whole i)

    within : (byte ≡ 32 → ⊥) → spaced (parts (byte ∷ line)) ≡ byte ∷ line
    within other =
        ap spaced (slice_split-cons_no (λ b. b == 32) byte line (ne_eqb byte 32 other)) ∙ onto byte (parts line) some ∙ ap (λ l. byte ∷ l) whole

pub spaced_parts : (line : List ℕ) → spaced (parts line) ≡ line
spaced_parts [] = refl
spaced_parts (byte ∷ line) = one_byte_more byte line (spaced_parts line)

-- and words with spaces between them are the parts
pub parts_spaced : (word : List ℕ) (words : List (List ℕ)) → Free word → AllByRecursion Free words → parts (spaced (word ∷ words)) ≡ word ∷ words
parts_spaced word [] free all = ap parts (append-nil word) ∙ slice_split_none _ word (tested word free)
parts_spaced word (next ∷ words) free all =
    slice_split_at _ word 32 (spaced (next ∷ words)) (tested word free) refl ∙ ap (λ l. word ∷ l) (parts_spaced next words all.0 all.1)

-- parts that stand in the line from a place on, with spaces between them
abbrev pub Ahead : List ℕ → ℕ → List (List ℕ) → Type 0
Ahead line from [] = Unit {0}
Ahead line from (part ∷ others) = (from ≤ length line) × (drop from line ≡ spaced (part ∷ others))

pub all_ahead : (line : List ℕ) (all : List (List ℕ)) → parts line ≡ all → Ahead line 0 all
all_ahead line [] same = tt
all_ahead line (part ∷ others) same = (omega arith, sym (spaced_parts line) ∙ ap spaced same)

drop_past : (xs : List ℕ) (y : ℕ) (ys : List ℕ) → drop (length xs + 1) (xs ++ y ∷ ys) ≡ ys
drop_past [] y ys = refl
drop_past (x ∷ xs) y ys =
    let longer : length (x ∷ xs) + 1 ≡ suc (length xs + 1) = omega arith in
    ap (λ n. drop n (x ∷ (xs ++ y ∷ ys))) longer ∙ drop_past xs y ys

module _ (line : List ℕ) (from : ℕ) (part : List ℕ) (others : List (List ℕ)) (ahead : Ahead line from (part ∷ others)) where
  pub fits : from + length part ≤ length line
  fits = omega (arith, ahead.0, length-drop from line, ap length ahead.1, length-append part (flat_map (λ next. codes " " ++ next) others))

  pub first_here : take (length part) (drop from line) ≡ part
  first_here = ap (take (length part)) ahead.1 ∙ take-append-le (length part) part _ (omega arith) ∙ take_all (length part) part (omega arith)

  pub others_ahead : Ahead line (from + length part + 1) others
  others_ahead = at others ahead.1
    where
      at : (others : List (List ℕ)) → drop from line ≡ spaced (part ∷ others) → Ahead line (from + length part + 1) others
      at [] same = tt
      at (next ∷ more) same = (
        omega (arith, ahead.0, length-drop from line, ap length same, length-append part (flat_map (λ next. codes " " ++ next) (next ∷ more))),
        sym (drop-drop (length part + 1) from line ∙ ap (λ n. drop n line) (omega arith)) ∙ ap (drop (length part + 1)) same ∙ drop_past part 32 (spaced (next ∷ more)),
      )

pub part_of : (P : List ℕ → Type 0) (told more : List (List ℕ)) (part : List ℕ) → AllByRecursion P (told ++ part ∷ more) → P part
part_of P [] more part all = all.0
part_of P (first ∷ told) more part all = part_of P told more part all.1

-- what is known of an option, in weaker facts
pub cases_weaker : {X : Type 0} (o : Option X) {P P' : Type 0} {Q Q' : X → Type 0} → MatchOption o P Q → (P → P') → ((x : X) → Q x → Q' x) → MatchOption o P' Q'
cases_weaker None h none some = none h
cases_weaker (Some x) h none some = some x h
