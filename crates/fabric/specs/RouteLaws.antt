-- What lawful routes give: the laws of a fabric, one more route at the end, and the one route of a pair.
use Rattle.std.proofs.Common.{◌≡◌, ℕ, ◌<◌, ◌≤◌, true, false, ◌&&◌, ◌||◌, eqb, List, [], ◌∷◌, ◌++◌, length, sym, refl, ap, ◌∙◌, subst, ⊎_elim, arith}
use Rattle.std.proofs.lemmas.Bool.{or_cases, or_parts, or_from, or_left, or_right, and_parts, and_from, eqb-true, eq-eqb, true≢false}
use Rattle.std.proofs.lemmas.Bool.Decides.{nat_tests}
use Rattle.std.proofs.Math.Bool.{or-false}
use Rattle.std.proofs.lemmas.List.Folds.{list_any-append}
use Rattle.std.proofs.ByRecursion.{All-push}
use Rattle.std.specs.List.{AllByRecursion}
use Rattle.fabric.specs.declared.pairs.Pair.{Pair}
use Rattle.fabric.specs.Meaning.{KeepsRoutes}
use Rattle.fabric.specs.RouteLists.{Route, Listing, ends, joins, among, some_joins, some_crosses, listed, LawfulRoute, LawfulRoutes, Lawful, Distinct}

-- the route of a pair, with what holds of each route
pub one_joins : (P : Route → Type 0) (rs : List Route) (p : Pair) → AllByRecursion P rs → some_joins rs p ≡ true → (r : Route) × P r × (joins r p ≡ true)
one_joins P [] p all e = absurd (true≢false (sym e))
one_joins P (r ∷ rs) p all e =
    ⊎_elim (λ here. (r, all.0, here)) (λ later. one_joins P rs p all.1 later) (or_cases (joins r p) (some_joins rs p) e)

pub one_crosses : (P : Route → Type 0) (rs : List Route) (p : Pair) (k : ℕ) → AllByRecursion P rs → some_crosses rs p k ≡ true → (r : Route) × P r × (joins r p ≡ true) × (among k r.links ≡ true)
one_crosses P [] p k all e = absurd (true≢false (sym e))
one_crosses P (r ∷ rs) p k all e =
    ⊎_elim
    (λ here. let both = and_parts (joins r p) (among k r.links) here in (r, all.0, both.0, both.1))
    (λ later. one_crosses P rs p k all.1 later)
    (or_cases (joins r p && among k r.links) (some_crosses rs p k) e)

pub joins_ends : (r : Route) (p : Pair) → joins r p ≡ true → (r.source ≡ p.source) × (r.destination ≡ p.destination)
joins_ends r p e =
    let both = and_parts (eqb r.source p.source) (eqb r.destination p.destination) e in
    (eqb-true _ _ both.0, eqb-true _ _ both.1)

among_below : (l k : ℕ) (ks : List ℕ) → AllByRecursion (λ x. x < l) ks → among k ks ≡ true → k < l
among_below l k [] all e = absurd (true≢false (sym e))
among_below l k (x ∷ ks) all e =
    ⊎_elim (λ here. subst (λ y. y < l) (eqb-true x k here) all.0) (λ later. among_below l k ks all.1 later) (or_cases (eqb x k) (among k ks) e)

crosses_joins : (rs : List Route) (p : Pair) (k : ℕ) → some_crosses rs p k ≡ true → some_joins rs p ≡ true
crosses_joins [] p k e = e
crosses_joins (r ∷ rs) p k e =
    ⊎_elim
    (λ here. or_left (joins r p) (some_joins rs p) (and_parts (joins r p) (among k r.links) here).0)
    (λ later. or_right (joins r p) (some_joins rs p) (crosses_joins rs p k later))
    (or_cases (joins r p && among k r.links) (some_crosses rs p k) e)

first_among : (ks : List ℕ) → 1 ≤ length ks → (k : ℕ) × (among k ks ≡ true)
first_among [] h = let z : ⊥ = omega arith in absurd z
first_among (k ∷ ks) h = (k, or_left (eqb k k) (among k ks) (eq-eqb k k refl))

joins_crosses : (t l : ℕ) (rs : List Route) (p : Pair) → AllByRecursion (LawfulRoute t l) rs → some_joins rs p ≡ true → (k : ℕ) × (some_crosses rs p k ≡ true)
joins_crosses t l [] p all e = absurd (true≢false (sym e))
joins_crosses t l (r ∷ rs) p all e =
    ⊎_elim
    (λ here.
    let first = first_among r.links all.0.some_link in
    (first.0, or_left _ (some_crosses rs p first.0) (and_from (joins r p) (among first.0 r.links) here first.1)))
    (λ later.
    let other = joins_crosses t l rs p all.1 later in
    (other.0, or_right (joins r p && among other.0 r.links) _ other.1))
    (or_cases (joins r p) (some_joins rs p) e)

pub list_keeps : (v : Listing) → Lawful v → KeepsRoutes (listed v)
list_keeps v ok =
    let each = ok.routes_lawful.each in
    record {
      terminals_least = ok.terminal_count.0;
      terminals_most = ok.terminal_count.1;
      links_least = ok.link_count.0;
      links_most = ok.link_count.1;
      crosses_some = λ p h. joins_crosses v.terminals v.links v.routes p each h;
      crosses_below = λ p k h.
          let found = one_crosses _ v.routes p k each h in
          among_below v.links k found.0.links found.1.links_below found.3;
      crosses_routed = λ p k h. crosses_joins v.routes p k h;
      apart = λ p h same.
          let found = one_joins _ v.routes p each h in
          let at = joins_ends found.0 p found.2 in
          found.1.apart (at.0 ∙ same ∙ sym at.1);
      source_below = λ p h.
          let found = one_joins _ v.routes p each h in
          let at = joins_ends found.0 p found.2 in
          omega (arith, found.1.source_below);
      destination_below = λ p h.
          let found = one_joins _ v.routes p each h in
          let at = joins_ends found.0 p found.2 in
          omega (arith, found.1.destination_below);
    }

-- a route more at the end
pub joins_push : (rs : List Route) (r : Route) (p : Pair) → some_joins (rs ++ r ∷ []) p ≡ (some_joins rs p || joins r p)
joins_push rs r p =
    list_any-append (λ x. joins x p) rs (r ∷ []) ∙ ap (λ b. some_joins rs p || b) (or-false (joins r p))

joins_symmetric : (r s : Route) → joins r (ends s) ≡ joins s (ends r)
joins_symmetric r s = grind (arith, nat_tests)

distinct_push : (rs : List Route) (r : Route) → Distinct rs → some_joins rs (ends r) ≡ false → Distinct (rs ++ r ∷ [])
distinct_push [] r d new = (refl, tt)
distinct_push (x ∷ rs) r d new =
    let apart = or_parts (joins x (ends r)) (some_joins rs (ends r)) new in
    (joins_push rs r (ends x) ∙ or_from (some_joins rs (ends x)) (joins r (ends x)) d.0 (joins_symmetric r x ∙ apart.0), distinct_push rs r d.1 apart.1)

pub lawful_push : (t l : ℕ) (rs : List Route) (r : Route) → LawfulRoutes t l rs → LawfulRoute t l r → some_joins rs (ends r) ≡ false → LawfulRoutes t l (rs ++ r ∷ [])
lawful_push t l rs r ok one new =
    record { each = All-push (LawfulRoute t l) rs r ok.each one; distinct = distinct_push rs r ok.distinct new }

-- a route in the middle is lawful, and none before it has its pair
joins_middle : (rs more : List Route) (r : Route) (p : Pair) → some_joins (rs ++ r ∷ more) p ≡ false → joins r p ≡ false
joins_middle rs more r p e =
    let parts = or_parts (some_joins rs p) (some_joins (r ∷ more) p) (sym (list_any-append (λ x. joins x p) rs (r ∷ more)) ∙ e) in
    (or_parts (joins r p) (some_joins more p) parts.1).0

distinct_middle : (rs more : List Route) (r : Route) → Distinct (rs ++ r ∷ more) → some_joins rs (ends r) ≡ false
distinct_middle [] more r d = refl
distinct_middle (x ∷ rs) more r d =
    or_from (joins x (ends r)) (some_joins rs (ends r)) (joins_symmetric x r ∙ joins_middle rs more r (ends x) d.0) (distinct_middle rs more r d.1)

all_middle : (P : Route → Type 0) (rs more : List Route) (r : Route) → AllByRecursion P (rs ++ r ∷ more) → P r
all_middle P [] more r all = all.0
all_middle P (x ∷ rs) more r all = all_middle P rs more r all.1

pub lawful_middle : (t l : ℕ) (rs more : List Route) (r : Route) → LawfulRoutes t l (rs ++ r ∷ more) → LawfulRoute t l r × (some_joins rs (ends r) ≡ false)
lawful_middle t l rs more r ok =
    (all_middle (LawfulRoute t l) rs more r ok.each, distinct_middle rs more r ok.distinct)
