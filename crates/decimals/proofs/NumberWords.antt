-- The words that spell numbers.
use Rattle.std.proofs.Common.{◌≡◌, ℕ, ◌^◌, ◌<◌, ◌≤◌, List, length, get_or, Ok, Err, IsUtf8, decimal, Result, sym, ap, ◌∙◌, subst, ⊎_elim, arith, length-drop, MatchOption, MatchResult}
use Rattle.std.specs.Result.{result_ok}
use Rattle.std.specs.Str.Parse.{AllDigits, IsNumeral, digits_value, without_leading_plus, ParsesUnsigned}
use Rattle.std.proofs.lemmas.Str.Parse.{IsNumeralModel, numerals_by_value, tells_digits, without_leading_plus_plus, without_leading_plus_none}
use Rattle.std.proofs.lemmas.Fmt.{decimal-digits_value, decimal_digit, first_decimal, parse-decimal, IsAscii-decimal}
use Rattle.std.proofs.lemmas.Str.{IsUtf8-from_ascii}
use Rattle.std.proofs.lemmas.Bool.Decides.{eqb_tells, leb_tells}

pub own : IsNumeralModel (AllDigits 10) (digits_value 10)
own = numerals_by_value (AllDigits 10) tells_digits

-- a number of more than one digit begins with 1 to 9
pub first_digit : (n : ℕ) (bs : List ℕ) → n < 2 ^ 16 → bs ≡ decimal n → 1 < length bs → get_or bs 0 0 < 49 → ⊥
first_digit n bs small e long low =
    ⊎_elim
    (λ zero. omega (arith, ap length (e ∙ ap decimal zero.1 ∙ decimal_digit 0 (omega arith))))
    (λ some. omega (arith, first_decimal n (omega (arith, some.1)) (omega arith), ap (λ l. get_or l 0 0) e))
    (eqb_tells n 0)

pub is_text : (n : ℕ) (bs : List ℕ) → n < 2 ^ 16 → bs ≡ decimal n → IsUtf8 bs
is_text n bs small e = subst IsUtf8 (sym e) (IsUtf8-from_ascii (decimal n) (IsAscii-decimal n (omega arith)))

module _ (bs : List ℕ) (plain : 1 < length bs → 49 ≤ get_or bs 0 0) where
  -- a sign has no digits after it
  no_plus : IsNumeral 10 (without_leading_plus bs) → get_or bs 0 0 ≡ 43 → ⊥
  no_plus digits plus = omega (arith, plain, digits.0, ap length (without_leading_plus_plus bs plus) ∙ length-drop 1 bs)

  pub spells : {E : Type 0} (r : Result ℕ E) → ParsesUnsigned 16 10 bs r → MatchOption (result_ok r) ((n : ℕ) → n < 2 ^ 16 → bs ≡ decimal n → ⊥) (λ n. bs ≡ decimal n)
  spells (Ok x) h =
      let whole = without_leading_plus_none bs (no_plus h.0.0) in
      let digits = subst (IsNumeral 10) whole h.0.0 in
      let is : x ≡ digits_value 10 bs = h.1 ∙ ap (digits_value 10) whole in
      sym (ap decimal is ∙ decimal-digits_value own bs digits.1 digits.0 (λ z. grind (arith, leb_tells (length bs) 1, digits.0)) (omega (arith, h.0.1, h.1, is)))
  spells (Err e) h = λ n small same. let z = parse-decimal 16 n bs (Err e) small (omega arith) same h in let z : ◌≡◌ {A = ℕ} 0 1 = cc in omega arith

-- what holds of a result holds of the option that `ok` makes of it
pub ok_cases : {T E : Type 0} (P : T → Type 0) (Q : E → Type 0) {N : Type 0} (r : Result T E) → MatchResult r P Q → ((e : E) → Q e → N) → MatchOption (result_ok r) N P
ok_cases P Q (Ok x) h none = h
ok_cases P Q (Err e) h none = none e h
