-- Single bits of a number, and numbers of 64 bits as sets: what the operations on the numbers make of the members.
use Rattle.std.proofs.Common.{◌≡◌, ℕ, zero, suc, ◌+◌, ◌-◌, ◌*◌, ◌/◌, ◌%◌, ◌^◌, ◌<◌, ◌≤◌, Bool, true, false, cond, not, ◌&&◌, T, Decides, eqb, w64, sym, refl, ap, ◌∙◌, ⊎_elim, eq-eqb, ne_eqb, eqb→eq, mod-eq_of_lt, pow-suc, pow_pos, arith}
use lib.Bits.{bit_and, bit_or, bit_xor, and_mask, xor_add_and}
use lib.Count.{count_leading_zeros}
use Rattle.std.specs.Int.{bit_at}
use Rattle.std.proofs.lemmas.Bool.{and_parts, and_from, and_left, both_ways, true≢false, cases_eq, cases_lt, cond-true, cond-false}
use Rattle.std.proofs.lemmas.Bool.Decides.{nat_tests}
use Rattle.std.proofs.lemmas.Float.{T_from_true}
use Rattle.std.proofs.lemmas.Nat.{and_le_l, leading_top, le-div, div_below}
use Rattle.std.proofs.lemmas.Nat.Bits.{bit_at_and, bit_at_xor, bit_at_ones, bit_at-lt, bit_at-zero, bit_at_above, bit_at_set_same, bit_at_set_other, bit_at_clear_same, bit_at_clear_other}
use Rattle.planner.specs.FlowSets.{bit}

-- a test that holds is true
pub is_true : (t : Bool) → T t → t ≡ true
is_true true t = refl
is_true false t = absurd t

pub bit_of_and : (a b k : ℕ) → bit (bit_and a b) k ≡ (bit a k && bit b k)
bit_of_and a b k = grind (arith, nat_tests, bit_at_and a b k, bit_at-lt a k, bit_at-lt b k)

pub bit_none : (k : ℕ) → bit 0 k ≡ false
bit_none k = ne_eqb (bit_at 0 k) 1 (λ e. omega (arith, bit_at-zero k))

-- from the width on no bit is set
pub bit_above : (w a k : ℕ) → a < 2 ^ w → w ≤ k → bit a k ≡ false
bit_above w a k l past = ne_eqb (bit_at a k) 1 (λ e. omega (arith, bit_at_above a w k l past))

-- so one that is set lies below it
pub bit_below : (w a k : ℕ) → a < 2 ^ w → T (bit a k) → k < w
bit_below w a k l t = ⊎_elim (λ below. below) (λ past. absurd (both_ways (bit a k) (bit_above w a k l past) (is_true _ t))) (cases_lt k w)

-- `!a` at w bits is `a ^ (2 ^ w - 1)`
pub not_is_xor : (w a : ℕ) → a < 2 ^ w → (2 ^ w - 1) - a ≡ bit_xor a (2 ^ w - 1)
not_is_xor w a l =
    let s = xor_add_and a (2 ^ w - 1) in
    let m : bit_and a (2 ^ w - 1) ≡ a = and_mask a w ∙ mod-eq_of_lt l in
    omega arith

-- and turns each of the bits
pub bit_not : (w a k : ℕ) → a < 2 ^ w → k < w → bit ((2 ^ w - 1) - a) k ≡ not (bit a k)
bit_not w a k l h =
    let turned : bit (bit_xor a (2 ^ w - 1)) k ≡ not (bit a k) = grind (arith, nat_tests, bit_at_xor a (2 ^ w - 1) k, bit_at_ones w k h, bit_at-lt a k) in
    ap (λ x. bit x k) (not_is_xor w a l) ∙ turned

-- `a & !b`
pub bit_without : (w a b k : ℕ) → a < 2 ^ w → b < 2 ^ w → bit (bit_and a ((2 ^ w - 1) - b)) k ≡ (bit a k && not (bit b k))
bit_without w a b k l m =
    bit_of_and a ((2 ^ w - 1) - b) k ∙ ⊎_elim
    (λ h. ap (λ x. bit a k && x) (bit_not w b k m h))
    (λ past. let out = bit_above w a k l past in and_left (bit a k) _ out ∙ sym (and_left (bit a k) _ out))
    (cases_lt k w)

-- `s | 1 << n`
pub bit_insert : (s n k : ℕ) → n < 64 → bit (bit_or s (1 * 2 ^ n % 2 ^ 64)) k ≡ cond (eqb k n) true (bit s k)
bit_insert s n k l =
    ⊎_elim
    (λ (e : k ≡ n). ap (bit (bit_or s (1 * 2 ^ n % 2 ^ 64))) e ∙ eq-eqb _ 1 (bit_at_set_same w64 s n l) ∙ sym (cond-true (eqb k n) true (bit s k) (eq-eqb k n e)))
    (λ ne. ap (λ x. eqb x 1) (bit_at_set_other w64 s n l k ne) ∙ sym (cond-false (eqb k n) true (bit s k) (ne_eqb k n ne)))
    (cases_eq k n)

-- `s & !(1 << n)`
pub bit_remove : (s n k : ℕ) → s < 2 ^ 64 → n < 64 → bit (bit_and s ((2 ^ 64 - 1) - 1 * 2 ^ n % 2 ^ 64)) k ≡ cond (eqb k n) false (bit s k)
bit_remove s n k f l =
    let left = bit_and s ((2 ^ 64 - 1) - 1 * 2 ^ n % 2 ^ 64) in
    ⊎_elim
    (λ (e : k ≡ n). ap (bit left) e ∙ ne_eqb (bit_at left n) 1 (λ q. omega (arith, bit_at_clear_same w64 s n l)) ∙ sym (cond-true (eqb k n) false (bit s k) (eq-eqb k n e)))
    (λ ne.
    let same : bit left k ≡ bit s k = ⊎_elim
    (λ below. ap (λ x. eqb x 1) (bit_at_clear_other w64 s n l k below ne))
    (λ past. let out = bit_above 64 s k f past in bit_of_and s _ k ∙ and_left (bit s k) _ out ∙ sym out)
    (cases_lt k 64) in
    same ∙ sym (cond-false (eqb k n) false (bit s k) (ne_eqb k n ne)))
    (cases_eq k n)

-- the highest bit of a number above 0
pub top_bit : (w a : ℕ) → a < 2 ^ w → 0 < a → (j : ℕ) × (count_leading_zeros w a + suc j ≡ w) × (bit a j ≡ true) × ((k : ℕ) → j < k → bit a k ≡ false)
top_bit w a l p =
    let top = leading_top w a p l in
    let j = top.0 in
    let some : 1 ≤ a / 2 ^ j = le-div 1 a (2 ^ j) (pow_pos j) (omega (arith, top.2)) in
    let one : a / 2 ^ j < 2 = div_below a (2 ^ j) 2 (pow_pos j) (omega (arith, top.3, pow-suc 2 j)) in
    (j, top.1, eq-eqb (a / 2 ^ j % 2) 1 (omega arith), λ k above. bit_above (suc j) a k top.3 (omega arith))

-- so it has one
pub some_bit : (w a : ℕ) → a < 2 ^ w → 0 < a → (k : ℕ) × (k < w) × T (bit a k)
some_bit w a l p = let top = top_bit w a l p in (top.0, omega (arith, top.1), T_from_true _ top.2)

-- no bit is set just in 0
pub none_set : (w a : ℕ) → a < 2 ^ w → ((k : ℕ) → k < w → T (bit a k) → ⊥) → T (eqb a 0)
none_set w zero l f = tt
none_set w (suc a) l f = let some = some_bit w (suc a) l (omega arith) in absurd (f some.0 some.1 some.2)

-- `a == 0`
pub empty_tells : (a : ℕ) → a < 2 ^ 64 → Decides (eqb a 0) ((k : ℕ) → bit a k ≡ false)
empty_tells a l = (
  λ e k. ap (λ x. bit x k) (eqb→eq a 0 (T_from_true _ e)) ∙ bit_none k,
  λ none. is_true _ (none_set 64 a l (λ k h t. both_ways (bit a k) (none k) (is_true _ t))),
)

-- `a & b != 0`: some number is in both
nonzero : (a : ℕ) → T (not (eqb a 0)) → 0 < a
nonzero zero t = absurd t
nonzero (suc a) t = omega arith

pub meet_some : (w a b : ℕ) → a < 2 ^ w → T (not (eqb (bit_and a b) 0)) → (k : ℕ) × (k < w) × T (bit a k) × T (bit b k)
meet_some w a b l t =
    let found = some_bit w (bit_and a b) (omega (arith, and_le_l a b)) (nonzero _ t) in
    let both = and_parts (bit a found.0) (bit b found.0) (sym (bit_of_and a b found.0) ∙ is_true _ found.2) in
    (found.0, found.1, T_from_true _ both.0, T_from_true _ both.1)

pub meet_all : (a b k : ℕ) → T (bit a k) → T (bit b k) → T (not (eqb (bit_and a b) 0))
meet_all a b k s t =
    let set = bit_of_and a b k ∙ and_from (bit a k) (bit b k) (is_true _ s) (is_true _ t) in
    T_from_true _ (ap not (ne_eqb (bit_and a b) 0 (λ z. both_ways (bit (bit_and a b) k) (ap (λ x. bit x k) z ∙ bit_none k) set)))

pub meet_tells : (a b : ℕ) → a < 2 ^ 64 → Decides (not (eqb (bit_and a b) 0)) ((k : ℕ) × (k < 64) × (bit a k ≡ true) × (bit b k ≡ true))
meet_tells a b l = (
  λ e. let found = meet_some 64 a b l (T_from_true _ e) in (found.0, found.1, is_true _ found.2, is_true _ found.3),
  λ h. is_true _ (meet_all a b h.0 (T_from_true _ h.2) (T_from_true _ h.3)),
)

-- `a & !b == 0`: each number of a is in b
keeps : (x y : Bool) → (x && not y) ≡ false → T x → T y
keeps true true e t = tt
keeps true false e t = absurd (true≢false e)
keeps false y e t = absurd t

breaks : (x y : Bool) → (T x → T y) → T (x && not y) → ⊥
breaks true true f t = t
breaks true false f t = f tt
breaks false y f t = t

pub within_all : (w a b k : ℕ) → a < 2 ^ w → b < 2 ^ w → T (eqb (bit_and a ((2 ^ w - 1) - b)) 0) → T (bit a k) → T (bit b k)
within_all w a b k l m z =
    keeps (bit a k) (bit b k) (sym (bit_without w a b k l m) ∙ ap (λ x. bit x k) (eqb→eq _ 0 z) ∙ bit_none k)

pub within_only : (w a b : ℕ) → a < 2 ^ w → b < 2 ^ w → ((k : ℕ) → k < w → T (bit a k) → T (bit b k)) → T (eqb (bit_and a ((2 ^ w - 1) - b)) 0)
within_only w a b l m f =
    none_set w _ (omega (arith, and_le_l a ((2 ^ w - 1) - b)))
    (λ k h t. breaks (bit a k) (bit b k) (f k h) (T_from_true _ (sym (bit_without w a b k l m) ∙ is_true _ t)))

pub within_tells : (a b : ℕ) → a < 2 ^ 64 → b < 2 ^ 64 → Decides (eqb (bit_and a ((2 ^ 64 - 1) - b)) 0) ((k : ℕ) → bit a k ≡ true → bit b k ≡ true)
within_tells a b l m = (
  λ e k in'. is_true _ (within_all 64 a b k l m (T_from_true _ e) (T_from_true _ in')),
  λ within. is_true _ (within_only 64 a b l m (λ k h t. T_from_true _ (within k (is_true _ t)))),
)
