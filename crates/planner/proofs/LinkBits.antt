-- Links in words of 64 bits.
use Rattle.std.proofs.Common.{◌≡◌, ℕ, ◌+◌, ◌*◌, ◌/◌, ◌%◌, ◌^◌, ◌<◌, ◌≤◌, true, false, cond, not, eqb, List, length, get_or, set, sym, ap, ◌∙◌, subst, ⊎_elim, arith, get_or-set_other, get_or-set_same, ne_eqb}
use lib.Bits.{bit_and, bit_or}
use Rattle.std.proofs.lemmas.List.{get_or_past}
use Rattle.std.proofs.lemmas.Bool.Decides.{eqb_tells, nat_tests}
use Rattle.std.proofs.lemmas.Bool.{cases_lt, both_ways}
use Rattle.std.proofs.lemmas.Slice.Zip.{get_or-zip, length-zip}
use Rattle.std.specs.List.{zip, AllWithin, HoldsAt}
use Rattle.planner.specs.declared.link_sets.LinkSet.{LinkSet}
use Rattle.planner.specs.FlowSets.{bit}
use Rattle.planner.specs.LinkSets.{crossing}
use Rattle.planner.proofs.Bits.{bit_insert, bit_none, meet_tells}

-- one link more
pub insert_at : (ws : List ℕ) (l k : ℕ) → length ws ≡ 4 → l < 256 →
    bit (get_or (set ws (l / 64) (bit_or (get_or ws (l / 64) 0) ((1 * 2 ^ (l % 64)) % 2 ^ 64))) (k / 64) 0) (k % 64) ≡ cond (eqb k l) true (bit (get_or ws (k / 64) 0) (k % 64))
insert_at ws l k four small =
    ⊎_elim
    (λ e. let room : l / 64 < length ws = omega arith in
    let same : eqb (k % 64) (l % 64) ≡ eqb k l = grind (arith, nat_tests, e.1) in
    ap (λ w. bit (get_or (set ws (l / 64) (bit_or (get_or ws (l / 64) 0) ((1 * 2 ^ (l % 64)) % 2 ^ 64))) w 0) (k % 64)) e.1
    ∙ ap (λ x. bit x (k % 64)) (get_or-set_same ws (l / 64) _ 0 room)
    ∙ bit_insert (get_or ws (l / 64) 0) (l % 64) (k % 64) (omega arith)
    ∙ ap (λ b. cond b true (bit (get_or ws (l / 64) 0) (k % 64))) same
    ∙ ap (λ w. cond (eqb k l) true (bit (get_or ws w 0) (k % 64))) (sym e.1))
    (λ e. let other : eqb k l ≡ false = grind (arith, nat_tests, e.1) in
    ap (λ x. bit x (k % 64)) (get_or-set_other ws (l / 64) (k / 64) _ 0 e.1)
    ∙ ap (λ b. cond b true (bit (get_or ws (k / 64) 0) (k % 64))) (sym other))
    (eqb_tells (k / 64) (l / 64))

-- a bit that two words have is a link of both
linked : (xs ys : List ℕ) (w n : ℕ) → n < 64 → bit (get_or xs w 0) n ≡ true → bit (get_or ys w 0) n ≡ true →
    (k : ℕ) × (bit (get_or xs (k / 64) 0) (k % 64) ≡ true) × (bit (get_or ys (k / 64) 0) (k % 64) ≡ true)
linked xs ys w n l a b =
    let word : (w * 64 + n) / 64 ≡ w = omega (arith, l) in
    let place : (w * 64 + n) % 64 ≡ n = omega (arith, l) in
    (w * 64 + n, rw (word, place) a, rw (word, place) b)

-- two words with a common bit have a common link
pub common_link : (xs ys : List ℕ) (w : ℕ) → get_or xs w 0 < 2 ^ 64 → (bit_and (get_or xs w 0) (get_or ys w 0) ≡ 0 → ⊥) →
    (k : ℕ) × (bit (get_or xs (k / 64) 0) (k % 64) ≡ true) × (bit (get_or ys (k / 64) 0) (k % 64) ≡ true)
common_link xs ys w fits some =
    let both = (meet_tells (get_or xs w 0) (get_or ys w 0) fits).0 (ap not (ne_eqb _ 0 some)) in
    linked xs ys w both.0 both.1 both.2 both.3

-- two words have a bit in common
abbrev pub Meet : ℕ × ℕ → Type 0
Meet p = (n : ℕ) × (n < 64) × (bit p.0 n ≡ true) × (bit p.1 n ≡ true)

-- as have words of two sets that meet
module _ (xs ys : List ℕ) (same : length xs ≡ length ys) where
  pairs : (w : ℕ) → w < length xs → get_or (zip xs ys) w (0, 0) ≡ (get_or xs w 0, get_or ys w 0)
  pairs w l = get_or-zip xs ys w (0, 0) l (omega arith)

  size : length (zip xs ys) ≡ length xs
  size = let e = length-zip xs ys in omega arith

  pub meeting_link : (w : ℕ) → w < length (zip xs ys) → HoldsAt Meet (zip xs ys) w → (k : ℕ) × (bit (get_or xs (k / 64) 0) (k % 64) ≡ true) × (bit (get_or ys (k / 64) 0) (k % 64) ≡ true)
  meeting_link w l met = let m = subst Meet (pairs w (omega (arith, size))) (met (0, 0)) in linked xs ys w m.0 m.1 m.2 m.3

  -- and where none meet there is none
  pub no_common : AllWithin (λ p. Meet p → ⊥) (zip xs ys) 0 (length (zip xs ys)) → (k : ℕ) → k / 64 < length xs →
      bit (get_or xs (k / 64) 0) (k % 64) ≡ true → bit (get_or ys (k / 64) 0) (k % 64) ≡ true → ⊥
  no_common none k l a b =
      let far = subst (λ p. Meet p → ⊥) (pairs (k / 64) l) (none (k / 64) (0, 0) (omega arith) (omega (arith, size))) in
      far (k % 64, omega arith, a, b)

-- past the words there is no link
pub past_none : (ws : List ℕ) (w n : ℕ) → length ws ≤ w → bit (get_or ws w 0) n ≡ true → ⊥
past_none ws w n past b = both_ways (bit (get_or ws w 0) n) (ap (λ x. bit x n) (get_or_past ws w 0 past) ∙ bit_none n) b

-- a set has links below 256 alone
pub crossing_below : (set : LinkSet) (k : ℕ) → length set.words ≡ 4 → crossing set k ≡ true → k < 256
crossing_below set k four e =
    ⊎_elim
    (λ (w : k / 64 < 4). omega arith)
    (λ (w : 4 ≤ k / 64). absurd (past_none set.words (k / 64) (k % 64) (omega arith) e))
    (cases_lt (k / 64) 4)
