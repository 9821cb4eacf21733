-- Which flows a label names in a directory, before and after one entry is written.
use Rattle.std.proofs.Common.{◌≡◌, ℕ, zero, suc, Bool, true, false, ◌⊎◌, List, [], ◌∷◌, set, is_some, Some, None, Ok, Option, sym, refl, ap, ◌∙◌, inl, inr, ⊎_elim, arith}
use Rattle.labels.specs.Directories.{holds, BoundAt, Unbound, Finds, Apart}

module _ {L : Type 0} (same : L → L → Bool) where
  -- what a search tells that finds none
  pub found_none : (entries : List (Option L)) (label : L) (o : Option ℕ) → Finds same entries label (Ok o) → false ≡ is_some o → Unbound same entries label
  found_none entries label None f e = f.1
  found_none entries label (Some n) f e = let z : ◌≡◌ {A = ℕ} 0 1 = cc in omega arith

  -- after entry n is bound a label names n, or what it named
  pub bound : (entries : List (Option L)) (n : ℕ) (new label : L) (k : ℕ) → BoundAt same (set entries n (Some new)) label k → ((k ≡ n) × (same new label ≡ true)) ⊎ BoundAt same entries label k
  bound [] n new label k h = inr h
  bound (e ∷ es) zero new label zero h = inl (refl, h)
  bound (e ∷ es) zero new label (suc k) h = inr h
  bound (e ∷ es) (suc n) new label zero h = inr h
  bound (e ∷ es) (suc n) new label (suc k) h = ⊎_elim (λ p. inl (ap suc p.0, p.1)) inr (bound es n new label k h)

  module _ (symmetric : (a b : L) → same a b ≡ same b a) (transitive : (a b c : L) → same a b ≡ true → same b c ≡ true → same a c ≡ true) where
    -- an entry that holds a label holds every label that is the same
    held_same : (o : Option L) (label new : L) → holds same o label ≡ true → same new label ≡ true → holds same o new ≡ true
    held_same None label new h e = h
    held_same (Some held) label new h e = transitive held label new h (symmetric label new ∙ e)

    pub bound_apart : (entries : List (Option L)) (n : ℕ) (new : L) → Unbound same entries new → Apart same entries → Apart same (set entries n (Some new))
    bound_apart entries n new free apart label j k p q =
        ⊎_elim
        (λ a. ⊎_elim (λ b. a.0 ∙ sym b.0) (λ b. absurd (free (k, held_same _ label new b a.1))) (bound entries n new label k q))
        (λ a.
        ⊎_elim
        (λ b. absurd (free (j, held_same _ label new a b.1)))
        (λ b. apart label j k a b)
        (bound entries n new label k q))
        (bound entries n new label j p)
