-- The tests of a tree are those of the lineage, and a tree keeps its routes.
use Rattle.std.specs.Prelude.{◌≡◌, ℕ, zero, suc, ◌+◌, ◌-◌, ◌*◌, ◌/◌, ◌%◌, ◌<◌, ◌≤◌, Bool, true, false, cond, ◌⊎◌, List, Decides, ◌==◌, ◌≢◌, nat_eq, refl}
use Rattle.std.proofs.Common.{subst, inl, inr, ⊎_elim, add-one, arith}
use Rattle.std.proofs.lemmas.List.{get_or_past}
use Rattle.std.proofs.lemmas.Bool.{cases_lt, eq-eqb, eqb-true}
use Rattle.std.proofs.lemmas.Bool.Decides.{nat_tests, Decides-eqb, Decides-below_or, Decides-like, Decides-and, Decides-not, not_from_Decides, same_from_decides}
use Rattle.fabric.specs.declared.pairs.Pair.{Pair}
use Rattle.fabric.specs.Meaning.{KeepsRoutes}
use Rattle.fabric.specs.Pairs.{two_of}
use Rattle.fabric.specs.Trees.{tree_size, parent_of, TreeLawful, ancestor, Lineage, TreeRoutes, Leaves, TreeCrosses, in_lineage, leaves, met_below, tree_crossed, tree_meaning}

-- one step up leads down in number, but from the root, which stays
pub parent_under : (ps : List ℕ) → TreeLawful ps → (v : ℕ) → parent_of ps v ≤ v - 1
parent_under ps lawful zero = omega arith
parent_under ps lawful (suc k) =
    ⊎_elim
    (λ (h : suc k < tree_size ps). omega (arith, lawful.2 (suc k) (omega arith) h))
    (λ (h : tree_size ps ≤ suc k). omega (arith, get_or_past ps k 0 (omega arith)))
    (cases_lt (suc k) (tree_size ps))

pub ancestor_under : (ps : List ℕ) → TreeLawful ps → (i v : ℕ) → ancestor ps i v ≤ v - i
ancestor_under ps lawful zero v = omega arith
ancestor_under ps lawful (suc i) v =
    omega (arith, ancestor_under ps lawful i (parent_of ps v), parent_under ps lawful v)

pub lineage_under : (ps : List ℕ) → TreeLawful ps → (v u : ℕ) → Lineage ps v u → u ≤ v
lineage_under ps lawful v u (i, e) = omega (arith, ancestor_under ps lawful i v)

-- u is in the lineage of v exactly when it is in that of w
abbrev pub Alike : List ℕ → ℕ → ℕ → ℕ → Type 0
Alike ps u v w = (Lineage ps v u → Lineage ps w u) × (Lineage ps w u → Lineage ps v u)

-- the lineage of w is w and the lineage of its parent r
pub alike_up : (ps : List ℕ) (u v w r : ℕ) → Alike ps u v w → u < w → parent_of ps w ≡ r → Alike ps u v r
alike_up ps u v w r alike h e =
    let P : ℕ → Type 0 = λ x. Alike ps u v x in
    subst P e (λ l. up (alike.0 l), λ l. alike.1 (l.0 + 1, simp add-one l.1))
  where
    up : Lineage ps w u → Lineage ps (parent_of ps w) u
    up (zero, e) = let z : ⊥ = omega arith in absurd z
    up (suc i, e) = (i, e)

-- at w or above it, u is in the lineage of w only if it is w
pub alike_met : (ps : List ℕ) → TreeLawful ps → (u v w : ℕ) → Alike ps u v w → w ≤ u → Decides (w == u) (Lineage ps v u)
alike_met ps lawful u v w alike h =
    (λ e. alike.1 (0, eqb-true w u e), λ l. eq-eqb w u (omega (arith, lineage_under ps lawful w u (alike.0 l))))

-- v steps suffice
lineage_soon : (ps : List ℕ) → TreeLawful ps → (v u : ℕ) → Lineage ps v u → (i : ℕ) × (i < v + 1) × (ancestor ps i v ≡ u)
lineage_soon ps lawful v u (i, e) =
    ⊎_elim
    (λ (h : i < v + 1). (i, h, e))
    (λ (h : v + 1 ≤ i). (v, omega arith, omega (arith, ancestor_under ps lawful i v, ancestor_under ps lawful v v)))
    (cases_lt i (v + 1))

pub lineage_decides : (ps : List ℕ) → TreeLawful ps → (v u : ℕ) → Decides (in_lineage ps v u) (Lineage ps v u)
unfolding met_below
lineage_decides ps lawful v u =
    Decides-like
    (in_lineage ps v u)
    (λ f. (f.0, f.2))
    (lineage_soon ps lawful v u)
    (Decides-below_or
    (λ i. nat_eq (ancestor ps i v) u)
    (λ i. ancestor ps i v ≡ u)
    (met_below ps v u)
    (λ i. Decides-eqb (ancestor ps i v) u)
    refl
    (λ _. refl)
    (v + 1))

pub leaves_decides : (ps : List ℕ) → TreeLawful ps → (a b v : ℕ) → Decides (leaves ps a b v) (Leaves ps a b v)
leaves_decides ps lawful a b v =
    Decides-and _ _ (lineage_decides ps lawful a v) (Decides-not _ (lineage_decides ps lawful b v))

pub leaves_same : (ps : List ℕ) → TreeLawful ps → (a b v : ℕ) (r : Bool) → Decides r (Leaves ps a b v) → r ≡ leaves ps a b v
leaves_same ps lawful a b v r h = same_from_decides r (leaves ps a b v) h (leaves_decides ps lawful a b v)

pub routes_decides : (ps : List ℕ) (p : Pair) → Decides (two_of (tree_size ps) p) (TreeRoutes ps p)
routes_decides ps p = (λ e. (grind (arith, nat_tests), grind (arith, nat_tests), λ i. grind (arith, nat_tests)), λ h. grind (arith, nat_tests))

decides_cond : {M P Q : Type 0} (b x y : Bool) → Decides b M → Decides x P → Decides y Q → Decides (cond b x y) ((M × P) ⊎ ((M → ⊥) × Q))
decides_cond true x y m p q =
    (λ e. inl (m.0 refl, p.0 e), λ h. ⊎_elim (λ l. p.1 l.1) (λ r. absurd (r.0 (m.0 refl))) h)
decides_cond false x y m p q =
    (λ e. inr (not_from_Decides false m refl, q.0 e), λ h. ⊎_elim (λ l. absurd (not_from_Decides false m refl l.0)) (λ r. q.1 r.1) h)

-- the two links of a terminal v are those whose half is v - 1: the even one goes up
abbrev Halved : List ℕ → Pair → ℕ → Type 0
Halved ps p k =
    ((k % 2 ≡ 0) × Leaves ps p.source p.destination (k / 2 + 1)) ⊎
    ((k % 2 ≢ 0) × Leaves ps p.destination p.source (k / 2 + 1))

from_halved : (ps : List ℕ) → TreeLawful ps → (p : Pair) (k : ℕ) → TreeRoutes ps p × Halved ps p k → TreeCrosses ps p k
from_halved ps lawful p k (routes, inl (even, l)) =
    (routes, (k / 2 + 1, omega arith, omega (arith, lineage_under ps lawful p.source (k / 2 + 1) l.0), inl (omega arith, l)))
from_halved ps lawful p k (routes, inr (odd, l)) =
    (routes, (k / 2 + 1, omega arith, omega (arith, lineage_under ps lawful p.destination (k / 2 + 1) l.0), inr (omega arith, l)))

to_halved : (ps : List ℕ) (p : Pair) (k : ℕ) → TreeCrosses ps p k → TreeRoutes ps p × Halved ps p k
to_halved ps p k (routes, (v, least, most, inl (e, l))) =
    let P : ℕ → Type 0 = Leaves ps p.source p.destination in
    let h : v ≡ k / 2 + 1 = omega arith in
    (routes, inl (omega arith, subst P h l))
to_halved ps p k (routes, (v, least, most, inr (e, l))) =
    let P : ℕ → Type 0 = Leaves ps p.destination p.source in
    let h : v ≡ k / 2 + 1 = omega arith in
    (routes, inr (λ even. omega arith, subst P h l))

pub crosses_decides : (ps : List ℕ) → TreeLawful ps → (p : Pair) (k : ℕ) → Decides (tree_crossed ps p k) (TreeCrosses ps p k)
crosses_decides ps lawful p k =
    Decides-like
    (tree_crossed ps p k)
    (from_halved ps lawful p k)
    (to_halved ps p k)
    (Decides-and
    (two_of (tree_size ps) p)
    _
    (routes_decides ps p)
    (decides_cond
    (k % 2 == 0)
    _
    _
    (Decides-eqb (k % 2) 0)
    (leaves_decides ps lawful p.source p.destination (k / 2 + 1))
    (leaves_decides ps lawful p.destination p.source (k / 2 + 1))))

-- the larger of two terminals is in its own lineage, and not in that of the smaller
pub leaves_larger : (ps : List ℕ) → TreeLawful ps → (a b : ℕ) → b < a → Leaves ps a b a
leaves_larger ps lawful a b h = ((0, refl), λ l. omega (arith, lineage_under ps lawful b a l))

crosses_some : (ps : List ℕ) → TreeLawful ps → (p : Pair) → TreeRoutes ps p → (k : ℕ) × TreeCrosses ps p k
crosses_some ps lawful p routes =
    ⊎_elim
    (λ (h : p.source < p.destination). (
      2 * p.destination - 1,
      (
        routes,
        (p.destination, omega arith, routes.1, inr (refl, leaves_larger ps lawful p.destination p.source h)),
      ),
    ))
    (λ (h : p.destination ≤ p.source).
    let less : p.destination < p.source = grind (arith, routes.2) in (
      2 * p.source - 2,
      (
        routes,
        (p.source, omega arith, routes.0, inl (refl, leaves_larger ps lawful p.source p.destination less)),
      ),
    ))
    (cases_lt p.source p.destination)

pub tree_keeps : (ps : List ℕ) → TreeLawful ps → KeepsRoutes (tree_meaning ps)
tree_keeps ps lawful = record {
  terminals_least = lawful.0;
  terminals_most = lawful.1;
  links_least = omega arith;
  links_most = omega arith;
  crosses_some = λ p h.
      let some = crosses_some ps lawful p ((routes_decides ps p).0 h) in
      (some.0, (crosses_decides ps lawful p some.0).1 some.1);
  crosses_below = λ p k h.
      let crossing = (crosses_decides ps lawful p k).0 h in
      ⊎_elim (λ up. omega (arith, crossing.1.2)) (λ down. omega (arith, crossing.1.2)) crossing.1.3;
  crosses_routed = λ p k h. (routes_decides ps p).1 ((crosses_decides ps lawful p k).0 h).0;
  apart = λ p h. ((routes_decides ps p).0 h).2;
  source_below = λ p h. ((routes_decides ps p).0 h).0;
  destination_below = λ p h. ((routes_decides ps p).0 h).1;
}
