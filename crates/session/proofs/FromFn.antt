-- What `array::from_fn` makes of a closure that changes nothing.
use Rattle.std.proofs.Common.{◌≡◌, ℕ, zero, suc, ◌+◌, ◌<◌, ◌≤◌, List, get_or, map, sym, ap, ◌∙◌, subst, ⊎_elim, arith}
use Rattle.std.proofs.lemmas.Bool.{cases_eq}
use Rattle.std.proofs.lemmas.List.FromFn.{fill_by_all}
use Rattle.std.specs.Array.{IsFromFnResult, IsFromFnResultFrom}
use Rattle.std.specs.Fn.{Called}
use Rattle.std.specs.List.{range_with_len}
use denote.Param.Members.{Mut}

module _ {F B : Type 0} (g : Mut F (ℕ × Unit {0}) B) (value : ℕ → B) (f : F) (gives : (i : ℕ) (y : B) (q : F) → Called g f (i, tt) y q → (y ≡ value i) × (q ≡ f)) where
  each : (ys : List B) (d : B) (n i : ℕ) → IsFromFnResultFrom g f ys i n → (k : ℕ) → i ≤ k → k < i + n → get_or ys k d ≡ value k
  each ys d zero i h k from below = absurd (omega arith)
  each ys d (suc n) i h k from below =
      let gave = gives i h.1 h.0 h.3 in
      ⊎_elim
      (λ (same : k ≡ i). ap (λ j. get_or ys j d) same ∙ h.2.1 d ∙ gave.0 ∙ ap value (sym same))
      (λ (other : k ≡ i → ⊥). each ys d n (i + 1) (subst (λ q. IsFromFnResultFrom g q ys (i + 1) n) gave.1 h.4) k (omega arith) (omega arith))
      (cases_eq k i)

  pub from_fn_is : (ys : List B) (d : B) (n : ℕ) → IsFromFnResult g f ys n → ys ≡ map value (range_with_len 0 n)
  from_fn_is ys d n h = fill_by_all value ys n d h.long (λ k below. each ys d n 0 h.each k (omega arith) (omega arith))
