-- Tests, sets, and searches below a number.
use Rattle.std.proofs.Common.{◌≡◌, ℕ, zero, suc, ◌<◌, Bool, true, false, not, eqb, ◌⊎◌, List, ◌∷◌, sym, refl, subst, inl, inr, ⊎_elim, arith}
use Rattle.std.proofs.lemmas.Bool.{both_ways, not-true, eqb-true, eqb-false, eq-eqb, ne_eqb, and_parts, and_from, or_cases, or_left, or_right, cases_Bool, cases_eq, not_from_false}
use Rattle.planner.specs.Orders.{without, has}

-- a statement with a proof or a refutation
abbrev pub Decided : Type 0 → Type 0
Decided P = P ⊎ (P → ⊥)

pub without_from : (p : ℕ → Bool) (f g : ℕ) → p g ≡ true → (g ≡ f → ⊥) → without p f g ≡ true
without_from p f g in' ne = and_from (p g) (not (eqb g f)) in' (not_from_false (eqb g f) (ne_eqb g f ne))

pub without_parts : (p : ℕ → Bool) (f g : ℕ) → without p f g ≡ true → (p g ≡ true) × (g ≡ f → ⊥)
without_parts p f g e =
    let parts = and_parts (p g) (not (eqb g f)) e in
    (parts.0, eqb-false g f (not-true (eqb g f) parts.1))

-- has (x ∷ xs) without x
pub has_rest : (x : ℕ) (xs : List ℕ) (g : ℕ) → has (x ∷ xs) g ≡ true → (g ≡ x → ⊥) → has xs g ≡ true
has_rest x xs g e ne = ⊎_elim (λ s. absurd (ne (eqb-true g x s))) (λ h. h) (or_cases (eqb g x) (has xs g) e)

pub has_front : (x : ℕ) (xs : List ℕ) → has (x ∷ xs) x ≡ true
has_front x xs = or_left (eqb x x) (has xs x) (eq-eqb x x refl)

pub has_later : (x : ℕ) (xs : List ℕ) (g : ℕ) → has xs g ≡ true → has (x ∷ xs) g ≡ true
has_later x xs g h = or_right (eqb g x) (has xs g) h

-- the two ways in which a list has g
pub has_cases : (x : ℕ) (xs : List ℕ) (g : ℕ) → has (x ∷ xs) g ≡ true → (g ≡ x) ⊎ (has xs g ≡ true)
has_cases x xs g e = ⊎_elim (λ s. inl (eqb-true g x s)) inr (or_cases (eqb g x) (has xs g) e)

-- what is true of one thing and not of another tells them apart
pub tells_apart : (p : ℕ → Bool) (f g : ℕ) → p f ≡ true → p g ≡ false → f ≡ g → ⊥
tells_apart p f g yes' no' e = both_ways (p g) no' (subst (λ x. p x ≡ true) e yes')

pub decide_bool : (b : Bool) → Decided (b ≡ true)
decide_bool b = ⊎_elim inl (λ no'. inr (both_ways b no')) (cases_Bool b)

pub decide_implied : {P Q : Type 0} → Decided P → Decided Q → Decided (P → Q)
decide_implied d (inl q) = inl (λ _. q)
decide_implied (inl p) (inr no') = inr (λ f. no' (f p))
decide_implied (inr not-p) (inr no') = inl (λ p. absurd (not-p p))

pub decide_both : {P Q : Type 0} → Decided P → Decided Q → Decided (P × Q)
decide_both (inl p) (inl q) = inl (p, q)
decide_both (inl p) (inr no') = inr (λ h. no' h.1)
decide_both (inr no') e = inr (λ h. no' h.0)

-- the highest number below n of which P holds
pub record Highest (P : ℕ → Type 0) (n f : ℕ) : Type 0 where
  pub below : f < n
  pub holds : P f
  pub top : (g : ℕ) → f < g → g < n → P g → ⊥

abbrev pub NoneBelow : (ℕ → Type 0) → ℕ → Type 0
NoneBelow P n = (g : ℕ) → g < n → P g → ⊥

module _ (P : ℕ → Type 0) (decide : (k : ℕ) → Decided (P k)) where
  highest_more : (n : ℕ) → Decided (P n) → (((f : ℕ) × Highest P n f) ⊎ NoneBelow P n) → ((f : ℕ) × Highest P (suc n) f) ⊎ NoneBelow P (suc n)
  highest_more n (inl here) r = inl (n, record { below = omega arith; holds = here; top = λ g l h _. omega arith })
  highest_more n (inr not-here) (inl (f, h)) = inl (
    f,
    record {
      below = omega arith;
      holds = h.holds;
      top = λ g l b pg. ⊎_elim (λ (e : g ≡ n). not-here (subst P e pg)) (λ ne. h.top g l (omega arith) pg) (cases_eq g n);
    },
  )
  highest_more n (inr not-here) (inr none) = inr (λ g b pg. ⊎_elim (λ (e : g ≡ n). not-here (subst P e pg)) (λ ne. none g (omega arith) pg) (cases_eq g n))

  pub highest : (n : ℕ) → ((f : ℕ) × Highest P n f) ⊎ NoneBelow P n
  highest zero = inr (λ g b _. omega arith)
  highest (suc n) = highest_more n (decide n) (highest n)

below_more : (P : ℕ → Type 0) (n : ℕ) → Decided (P n) → Decided ((k : ℕ) → k < n → P k) → Decided ((k : ℕ) → k < suc n → P k)
below_more P n (inl here) (inl all) = inl (λ k b. ⊎_elim (λ (e : k ≡ n). subst P (sym e) here) (λ ne. all k (omega arith)) (cases_eq k n))
below_more P n (inr not-here) d = inr (λ all. not-here (all n (omega arith)))
below_more P n (inl here) (inr no') = inr (λ all. no' (λ k b. all k (omega arith)))

pub decide_below : (P : ℕ → Type 0) → ((k : ℕ) → Decided (P k)) → (n : ℕ) → Decided ((k : ℕ) → k < n → P k)
decide_below P decide zero = inl (λ k b. absurd (omega arith))
decide_below P decide (suc n) = below_more P n (decide n) (decide_below P decide n)
