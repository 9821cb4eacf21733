-- Sets of flows, which flows overlap, and the orders in which they may be placed.
use Rattle.std.specs.Prelude.{◌≡◌, ℕ, ◌<◌, Bool, true, false, not, ◌&&◌, ◌||◌, ◌⊎◌, List, [], ◌∷◌, ◌==◌, ◌≢◌}

-- a set of flows p holds the flows f with p f ≡ true
abbrev pub Within : (ℕ → Bool) → (ℕ → Bool) → Type 0
Within p q = (f : ℕ) → p f ≡ true → q f ≡ true

abbrev pub Below : ℕ → (ℕ → Bool) → Type 0
Below n p = (f : ℕ) → p f ≡ true → f < n

-- the set p, but for f
abbrev pub without : (ℕ → Bool) → ℕ → ℕ → Bool
without p f g = p g && not (g == f)

-- the set p, and f
abbrev pub plus : (ℕ → Bool) → ℕ → ℕ → Bool
plus p f g = g == f || p g

-- the members of p that overlap f
abbrev pub beside : (ℕ → ℕ → Bool) → (ℕ → Bool) → ℕ → ℕ → Bool
beside ov p f g = p g && ov f g

-- any two members of p overlap
abbrev pub AllOverlap : (ℕ → ℕ → Bool) → (ℕ → Bool) → Type 0
AllOverlap ov p = (f g : ℕ) → p f ≡ true → p g ≡ true → (f ≢ g) → ov f g ≡ true

-- the set of what a list has
abbrev pub has : List ℕ → ℕ → Bool
has [] g = false
has (x ∷ xs) g = g == x || has xs g

-- A list of flows has the latest at its front. Each comes once, and what comes before it and overlaps it all overlaps.
abbrev pub Orderly : (ℕ → ℕ → Bool) → List ℕ → Type 0
Orderly ov [] = Unit {0}
Orderly ov (f ∷ es) = (has es f ≡ false) × AllOverlap ov (beside ov (has es) f) × Orderly ov es

-- xs is an order of the set p
pub record Order (ov : ℕ → ℕ → Bool) (p : ℕ → Bool) (xs : List ℕ) : Type 0 where
  pub lists : (f : ℕ) → p f ≡ has xs f
  pub fine : Orderly ov xs

-- f may come last of the set p
abbrev pub MayComeLast : (ℕ → ℕ → Bool) → (ℕ → Bool) → ℕ → Type 0
MayComeLast ov p f = (p f ≡ true) × AllOverlap ov (beside ov (without p f) f)

-- f is the highest that may come last of p
abbrev pub ChosenLast : (ℕ → ℕ → Bool) → (ℕ → Bool) → ℕ → Type 0
ChosenLast ov p f = MayComeLast ov p f × ((g : ℕ) → f < g → MayComeLast ov p g → ⊥)

-- the order that is chosen of p, from its end
abbrev pub Chosen : (ℕ → ℕ → Bool) → (ℕ → Bool) → List ℕ → Type 0
Chosen ov p [] = (f : ℕ) → p f ≡ false
Chosen ov p (f ∷ es) = ChosenLast ov p f × Chosen ov (without p f) es

-- the choice takes xs, and then flows are left of which none may come last
abbrev pub Stuck : (ℕ → ℕ → Bool) → (ℕ → Bool) → List ℕ → Type 0
Stuck ov p [] = ((f : ℕ) × (p f ≡ true)) × ((f : ℕ) → MayComeLast ov p f → ⊥)
Stuck ov p (f ∷ xs) = ChosenLast ov p f × Stuck ov (without p f) xs

-- the choice takes xs, and then q is left, of which none may come last
pub record StuckWith (ov : ℕ → ℕ → Bool) (p : ℕ → Bool) (xs : List ℕ) (q : ℕ → Bool) : Type 0 where
  pub stuck : Stuck ov p xs
  pub left : (f : ℕ) → q f ≡ (p f && not (has xs f))
  pub some : (f : ℕ) × (q f ≡ true)
  pub none : (f : ℕ) → MayComeLast ov q f → ⊥

-- p has no order, and the choice leaves q
pub record Remains (ov : ℕ → ℕ → Bool) (p q : ℕ → Bool) : Type 0 where
  pub chosen : List ℕ
  pub stuck : StuckWith ov p chosen q
  pub no_order : (xs : List ℕ) → Order ov p xs → ⊥
  -- q holds every set of flows of p of which none may come last, so it does not depend on what was chosen
  pub most : (k : ℕ → Bool) → Within k p → ((f : ℕ) → MayComeLast ov k f → ⊥) → Within k q
  -- and nothing else can be left
  pub one : (xs : List ℕ) (r : ℕ → Bool) → StuckWith ov p xs r → (f : ℕ) → r f ≡ q f

pub record Choice (ov : ℕ → ℕ → Bool) (p : ℕ → Bool) : Type 0 where
  -- an order leaves in each set of its flows, if that is not empty, one that may come last
  pub goes_on : (xs : List ℕ) → Order ov p xs → (q : ℕ → Bool) → Within q p → (f : ℕ) → q f ≡ true → (g : ℕ) × MayComeLast ov q g
  -- what is chosen is an order
  pub makes : (xs : List ℕ) → Chosen ov p xs → Order ov p xs
  -- where the choice gets stuck there is no order
  pub refutes : (xs ys : List ℕ) → Stuck ov p xs → Order ov p ys → ⊥
  -- the choice ends in one of the two ways
  pub ends : ((xs : List ℕ) × Chosen ov p xs) ⊎ ((xs : List ℕ) × Stuck ov p xs)
  -- so where there is no order it gets stuck
  pub stuck : ((ys : List ℕ) → Order ov p ys → ⊥) → (xs : List ℕ) × Stuck ov p xs
  -- it chooses one order at most
  pub one : (xs ys : List ℕ) → Chosen ov p xs → Chosen ov p ys → xs ≡ ys

abbrev pub OrdersStand : Type 0
OrdersStand = (n : ℕ) (ov : ℕ → ℕ → Bool) (p : ℕ → Bool) → Below n p → Choice ov p
