-- Which flow may come last, by the group of the flows that overlap it.
use Rattle.std.proofs.Common.{◌≡◌, ℕ, Bool, true, false, cond, ◌&&◌, eqb, sym, ap, ◌∙◌, subst, ⊎_elim}
use Rattle.std.proofs.lemmas.Bool.{false≢true, both_ways, and_parts, and_from, cases_eq, eq-eqb, ne_eqb, cond-true, cond-false}
use Rattle.planner.specs.Orders.{without, beside, MayComeLast}
use Rattle.planner.proofs.Sets.{without_from, without_parts, tells_apart}

-- f overlaps each other member of b
abbrev pub OverlapsRest : (ℕ → ℕ → Bool) → (ℕ → Bool) → ℕ → Type 0
OverlapsRest ov b f = (g : ℕ) → b g ≡ true → (f ≡ g → ⊥) → ov f g ≡ true

-- u is the group of f, and b what it has of the flows of p
module _ (ov : ℕ → ℕ → Bool) (apart : (f : ℕ) → ov f f ≡ false) (p u b : ℕ → Bool) (f : ℕ)
    (group : (g : ℕ) → u g ≡ ov f g) (common : (g : ℕ) → b g ≡ (u g && p g)) where
  is : (g : ℕ) → b g ≡ (ov f g && p g)
  is g = common g ∙ ap (λ x. x && p g) (group g)

  from_beside : (g : ℕ) → beside ov (without p f) f g ≡ true → b g ≡ true
  from_beside g h =
      let parts = and_parts (without p f g) (ov f g) h in
      is g ∙ and_from (ov f g) (p g) parts.1 (without_parts p f g parts.0).0

  to_beside : (g : ℕ) → b g ≡ true → beside ov (without p f) f g ≡ true
  to_beside g h =
      let parts = and_parts (ov f g) (p g) (sym (is g) ∙ h) in
      and_from (without p f g) (ov f g) (without_from p f g parts.1 (tells_apart (ov f) g f parts.0 (apart f))) parts.0

  pub may_last : p f ≡ true → ((g : ℕ) → b g ≡ true → OverlapsRest ov b g) → MayComeLast ov p f
  may_last in' all = (in', λ g h bg bh ne. all g (from_beside g bg) h (from_beside h bh) ne)

  pub not_last : (g : ℕ) → b g ≡ true → (OverlapsRest ov b g → ⊥) → MayComeLast ov p f → ⊥
  not_last g bg no' last = no' (λ h bh ne. last.1 g h (to_beside g bg) (to_beside h bh) ne)

kept : (b x : Bool) → cond b false x ≡ true → x ≡ true
kept true x e = absurd (false≢true e)
kept false x e = e

-- q' is q without f, which was passed
module _ (q q' : ℕ → Bool) (f : ℕ) (taken : (k : ℕ) → q' k ≡ cond (eqb k f) false (q k)) where
  pub still_in : (k : ℕ) → q' k ≡ true → q k ≡ true
  still_in k h = kept (eqb k f) (q k) (sym (taken k) ∙ h)

  pub passed : (P : ℕ → Type 0) → ((k : ℕ) → q k ≡ false → P k) → P f → (k : ℕ) → q' k ≡ false → P k
  passed P before here k out = ⊎_elim
      (λ (e : k ≡ f). subst P (sym e) here)
      (λ ne. before k (sym (taken k ∙ cond-false (eqb k f) false (q k) (ne_eqb k f ne)) ∙ out))
      (cases_eq k f)

-- the test for OverlapsRest, by a set without f that is to be within the group of f
module _ (ov : ℕ → ℕ → Bool) (b rest u : ℕ → Bool) (f : ℕ) (removed : (g : ℕ) → rest g ≡ cond (eqb g f) false (b g)) (group : (g : ℕ) → u g ≡ ov f g) where
  pub within_rest : ((g : ℕ) → rest g ≡ true → u g ≡ true) → OverlapsRest ov b f
  within_rest w g bg ne = sym (group g) ∙ w g (removed g ∙ cond-false (eqb g f) false (b g) (ne_eqb g f (λ e. ne (sym e))) ∙ bg)

  pub rest_within : OverlapsRest ov b f → (g : ℕ) → rest g ≡ true → u g ≡ true
  rest_within all g in' = ⊎_elim
      (λ (e : g ≡ f). absurd (both_ways (rest g) (removed g ∙ cond-true (eqb g f) false (b g) (eq-eqb g f e)) in'))
      (λ ne. group g ∙ all g (sym (removed g ∙ cond-false (eqb g f) false (b g) (ne_eqb g f ne)) ∙ in') (λ e. ne (sym e)))
      (cases_eq g f)
