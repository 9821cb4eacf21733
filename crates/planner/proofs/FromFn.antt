-- What `array::from_fn` makes of a closure that changes nothing.
use Rattle.std.proofs.Common.{◌≡◌, ℕ, zero, suc, ◌+◌, ◌<◌, ◌≤◌, List, get_or, sym, subst, ⊎_elim, arith}
use Rattle.std.proofs.lemmas.Bool.{cases_eq}
use Rattle.std.specs.Array.{IsFromFnResult, IsFromFnResultFrom}
use Rattle.std.specs.Fn.{Called}
use denote.Param.Members.{Mut}

module _ {F B : Type 0} (g : Mut F (ℕ × Unit {0}) B) (P : ℕ → B → Type 0) (f : F) (gives : (i : ℕ) (y : B) (q : F) → Called g f (i, tt) y q → P i y × (q ≡ f)) where
  each : (ys : List B) (d : B) (n i : ℕ) → IsFromFnResultFrom g f ys i n → (k : ℕ) → i ≤ k → k < i + n → P k (get_or ys k d)
  each ys d zero i h k from below = absurd (omega arith)
  each ys d (suc n) i h k from below =
      let gave = gives i h.1 h.0 h.3 in
      ⊎_elim
      (λ (same : k ≡ i). subst (λ j. P j (get_or ys j d)) (sym same) (subst (P i) (sym (h.2.1 d)) gave.0))
      (λ (other : k ≡ i → ⊥). each ys d n (i + 1) (subst (λ q. IsFromFnResultFrom g q ys (i + 1) n) gave.1 h.4) k (omega arith) (omega arith))
      (cases_eq k i)

  -- each item is as the closure makes it of its number
  pub from_fn_each : (ys : List B) (d : B) (n : ℕ) → IsFromFnResult g f ys n → (k : ℕ) → k < n → P k (get_or ys k d)
  from_fn_each ys d n h k below = each ys d n 0 h.each k (omega arith) (omega arith)
