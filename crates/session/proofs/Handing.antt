-- Lines that are handed to a printer, one part after another.
use Rattle.std.proofs.Common.{ℕ, List, [], ◌∷◌, ◌++◌, ◌∙◌, subst}
use Rattle.session.specs.Output.{Handed}
use Rattle.session.specs.Parts.{Tells}
use Rattle.session.specs.declared.tellers.Teller.{Teller}

module _ {P : Type 0} (took : P → List ℕ → P → Type 0) where
  handed_more : (xs ys : List (List ℕ)) (w u v : P) → Handed took w xs u → Handed took u ys v → Handed took w (xs ++ ys) v
  handed_more [] ys w u v h k = subst (λ p. Handed took p ys v) h k
  handed_more (x ∷ xs) ys w u v h k = (h.0, h.1, handed_more xs ys h.0 u v h.2 k)

  pub tells_more : (xs ys : List (List ℕ)) (w u v : Teller P) → Tells took w xs u → Tells took u ys v → Tells took w (xs ++ ys) v
  tells_more xs ys w u v h k = (handed_more xs ys w.out.now u.out.now v.out.now h.0 k.0, k.1 ∙ h.1)
