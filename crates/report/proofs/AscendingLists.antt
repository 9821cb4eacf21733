-- The numbers that pass a test, listed upwards.
use Rattle.std.proofs.Common.{◌≡◌, ℕ, zero, suc, ◌+◌, ◌<◌, ◌≤◌, Bool, true, false, cond, ◌⊎◌, List, ◌∷◌, length, get_or, filter, sym, refl, ap, ◌∙◌, inl, inr, ⊎_elim, arith}
use Rattle.std.specs.List.{range_with_len}
use Rattle.std.proofs.lemmas.Bool.Decides.{eqb_tells}
use Rattle.report.specs.Links.{Ascending}

-- a number before a list of greater ones
module _ {P Q : ℕ → Type 0} (a : ℕ) {ks : List ℕ} (rest : Ascending Q ks) (here : P a) (after : (k : ℕ) → Q k → (a < k) × P k) where
  rises : (i j : ℕ) → i < j → j < length (a ∷ ks) → get_or (a ∷ ks) i 0 < get_or (a ∷ ks) j 0
  rises zero zero h l = absurd (omega arith)
  rises (suc i) zero h l = absurd (omega arith)
  rises zero (suc j) h l = (after _ (rest.only j (omega arith))).0
  rises (suc i) (suc j) h l = rest.rises i j (omega arith) (omega arith)

  only : (i : ℕ) → i < length (a ∷ ks) → P (get_or (a ∷ ks) i 0)
  only zero l = here
  only (suc i) l = (after _ (rest.only i (omega arith))).1

  pub first_put : ((k : ℕ) → P k → (k ≡ a) ⊎ Q k) → Ascending P (a ∷ ks)
  first_put split = record {
    rises = rises;
    only = only;
    all = λ k h. ⊎_elim (λ e. (0, omega arith, sym e)) (λ q. let at = rest.all k q in (suc at.0, omega (arith, at.1), at.2)) (split k h);
  }

pub alike : {P Q : ℕ → Type 0} {ks : List ℕ} → ((k : ℕ) → P k → Q k) → ((k : ℕ) → Q k → P k) → Ascending P ks → Ascending Q ks
alike to from list = record { rises = list.rises; only = λ i l. to _ (list.only i l); all = λ k h. list.all k (from k h) }

module _ (test : ℕ → Bool) where
  -- one of the n numbers from a on, and it passes
  abbrev pub Passes : ℕ → ℕ → ℕ → Type 0
  Passes a n k = (a ≤ k) × (k < a + n) × (test k ≡ true)

  apart : (a n k : ℕ) → Passes a (suc n) k → (k ≡ a) ⊎ Passes (a + 1) n k
  apart a n k h =
      ⊎_elim (λ e. inl e.1) (λ e. inr (omega (arith, h.0, e.1), omega (arith, h.1), h.2)) (eqb_tells k a)

  put : (a n : ℕ) {ks : List ℕ} (b : Bool) → test a ≡ b → Ascending (Passes (a + 1) n) ks → Ascending (Passes a (suc n)) (cond b (a ∷ ks) ks)
  put a n true e rest =
      first_put a rest (omega arith, omega arith, e) (λ k h. (omega (arith, h.0), (omega (arith, h.0), omega (arith, h.1), h.2))) (apart a n)
  put a n false e rest =
      alike
      (λ k h. (omega (arith, h.0), omega (arith, h.1), h.2))
      (λ k h. ⊎_elim (λ same. absurd (let both = sym e ∙ ap test (sym same) ∙ h.2 in cc)) (λ q. q) (apart a n k h))
      rest

  pub passing : (a n : ℕ) → Ascending (Passes a n) (filter test (range_with_len a n))
  passing a zero = record { rises = λ i j h l. absurd (omega arith); only = λ i l. absurd (omega arith); all = λ k h. absurd (omega (arith, h.0, h.1)) }
  passing a (suc n) = put a n (test a) refl (passing (a + 1) n)
