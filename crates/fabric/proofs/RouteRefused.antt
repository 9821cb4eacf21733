-- The place of a refusal is one place, and bytes that have it are no lawful list's.
use Rattle.std.proofs.Common.{◌≡◌, ℕ, zero, suc, ◌+◌, ◌<◌, ◌≤◌, false, List, length, get_or, sym, ap, ◌∙◌, subst, subst₂, ⊎_elim, arith}
use Rattle.std.proofs.lemmas.List.{length-drop, length-take, get_or-take, get_or-drop}
use Rattle.std.proofs.ByRecursion.{All-get_or, All-from_get_or}
use Rattle.std.proofs.lemmas.Bool.{cases_order}
use Rattle.fabric.specs.RouteLists.{Route, Lawful, LawfulRoute, LawfulRoutes, Accepted, ends, some_joins}
use Rattle.fabric.specs.RouteReading.{route_at, next_at, decoded, first_routes, first_end}
use Rattle.fabric.specs.RouteRefusals.{HeaderRule, header_place, Kept, Reached, RefusedAt, Settled, stated_terminals, stated_links, stated_routes}
use Rattle.fabric.specs.RouteBytes.{routes_split, read_back}
use Rattle.fabric.specs.RouteLaws.{lawful_middle}
use Rattle.fabric.specs.RouteAccepted.{reads_as}

-- link i of the route at a place is a byte of the whole
link_at : (bs : List ℕ) (at i : ℕ) → i < get_or bs (at + 2) 0 → get_or (route_at bs at).links i 0 ≡ get_or bs (at + suc (suc (suc i))) 0
link_at bs at i h =
    let e : at + 3 + i ≡ at + suc (suc (suc i)) = omega arith in
    rw (get_or-take, get_or-drop, e)

link_total : (bs : List ℕ) (at : ℕ) → next_at bs at ≤ length bs → length (route_at bs at).links ≡ get_or bs (at + 2) 0
link_total bs at fits = simp (length-take, length-drop) (omega arith)

-- each byte of a lawful route keeps its rule
pub lawful_kept : (bs : List ℕ) (before : List Route) (at : ℕ) → next_at bs at ≤ length bs → LawfulRoute (stated_terminals bs) (stated_links bs) (route_at bs at) → some_joins before (ends (route_at bs at)) ≡ false → (k : ℕ) → k < 3 + get_or bs (at + 2) 0 → Kept bs before at k
lawful_kept bs before at fits ok new zero h = (omega arith, ok.source_below)
lawful_kept bs before at fits ok new (suc zero) h = (omega arith, (ok.destination_below, ok.apart, new))
lawful_kept bs before at fits ok new (suc (suc zero)) h = (omega arith, omega (arith, ok.some_link, link_total bs at fits))
lawful_kept bs before at fits ok new (suc (suc (suc i))) h =
    let below = All-get_or (λ k. k < stated_links bs) (route_at bs at).links i 0 (omega (arith, link_total bs at fits)) ok.links_below in
    (omega arith, omega (arith, below, link_at bs at i (omega arith)))

-- and a route whose bytes all keep their rules is lawful
pub kept_lawful : (bs : List ℕ) (before : List Route) (at : ℕ) → ((k : ℕ) → k < 3 + get_or bs (at + 2) 0 → Kept bs before at k) → (next_at bs at ≤ length bs) × LawfulRoute (stated_terminals bs) (stated_links bs) (route_at bs at) × (some_joins before (ends (route_at bs at)) ≡ false)
kept_lawful bs before at kept =
    let last = (kept (2 + get_or bs (at + 2) 0) (omega arith)).0 in
    let fits : next_at bs at ≤ length bs = omega (arith, last) in
    let total = link_total bs at fits in (
      fits,
      record {
        source_below = (kept 0 (omega arith)).1;
        destination_below = (kept 1 (omega arith)).1.0;
        apart = (kept 1 (omega arith)).1.1;
        some_link = omega (arith, total, (kept 2 (omega arith)).1);
        links_below = All-from_get_or (λ k. k < stated_links bs) (route_at bs at).links 0 (λ i h.
            let at_i : i < get_or bs (at + 2) 0 = omega arith in
            omega (arith, link_at bs at i at_i, (kept (suc (suc (suc i))) (omega arith)).1));
      },
      (kept 1 (omega arith)).1.2,
    )

whole_kept : (bs : List ℕ) (n m : ℕ) → n < m → first_end bs m ≤ length bs → LawfulRoutes (stated_terminals bs) (stated_links bs) (first_routes bs m) → (k : ℕ) → k < 3 + get_or bs (first_end bs n + 2) 0 → Kept bs (first_routes bs n) (first_end bs n) k
whole_kept bs n m h fits ok =
    let s = routes_split bs n m 7 h in
    let one = lawful_middle _ _ (first_routes bs n) s.0 (route_at bs (first_end bs n)) (subst (LawfulRoutes (stated_terminals bs) (stated_links bs)) s.1 ok) in
    lawful_kept bs (first_routes bs n) (first_end bs n) (omega (arith, s.2)) one.0 one.1

-- where the reading has come, by how many routes were read
reached_is : (bs : List ℕ) (before : List Route) (at : ℕ) → Reached bs before at → (first_routes bs (length before) ≡ before) × (first_end bs (length before) ≡ at)
reached_is bs before at r = read_back bs before 7 at (r.header 0 (omega arith)).0 r.within r.written

-- a route that others follow, or that is one of a lawful list, has no byte that breaks its rule
no_break : (bs : List ℕ) (before : List Route) (at m k : ℕ) → Reached bs before at → length before < m → first_end bs m ≤ length bs → LawfulRoutes (stated_terminals bs) (stated_links bs) (first_routes bs m) → k < 3 + get_or bs (at + 2) 0 → Kept bs before at k
no_break bs before at m k r h fits ok =
    let i = reached_is bs before at r in
    subst (λ e. k < 3 + get_or bs (e + 2) 0 → Kept bs before e k) i.1 (subst (λ rs. k < 3 + get_or bs (first_end bs (length before) + 2) 0 → Kept bs rs (first_end bs (length before)) k) i.0 (whole_kept bs (length before) m h fits ok k))

pub refused_not_accepted : (bs : List ℕ) (place : ℕ) → RefusedAt bs place → Accepted bs → ⊥
refused_not_accepted bs place (RefusedAt.in_header k h all breaks e) a =
    breaks ((reads_as a.0 bs a.1 a.2).header k h)
refused_not_accepted bs place (RefusedAt.in_route before at k r count h all breaks e) a =
    let read = reads_as a.0 bs a.1 a.2 in
    let ok : Lawful (decoded bs) = subst Lawful (sym read.is) a.1 in
    breaks (no_break bs before at (stated_routes bs) k r count (omega (arith, read.whole)) ok.routes_lawful h)
refused_not_accepted bs place (RefusedAt.left_over before r count h) a =
    let read = reads_as a.0 bs a.1 a.2 in
    let end : first_end bs (stated_routes bs) ≡ place = ap (first_end bs) (sym count) ∙ (reached_is bs before place r).1 in
    omega (arith, read.whole)

-- the first number of which something does not hold is one number
first_broken : (P : ℕ → Type 0) (k j : ℕ) → ((i : ℕ) → i < k → P i) → (P k → ⊥) → ((i : ℕ) → i < j → P i) → (P j → ⊥) → k ≡ j
first_broken P k j below-k at-k below-j at_j =
    ⊎_elim (λ e. e) (λ o. ⊎_elim (λ lt. absurd (at-k (below-j k lt))) (λ gt. absurd (at_j (below-k j gt))) o) (cases_order k j)

follows : (bs : List ℕ) (before : List Route) (at : ℕ) → Reached bs before at → (first_end bs (length before) ≤ length bs) × LawfulRoutes (stated_terminals bs) (stated_links bs) (first_routes bs (length before))
follows bs before at r =
    let i = reached_is bs before at r in
    (omega (arith, i.1, r.within), subst (LawfulRoutes (stated_terminals bs) (stated_links bs)) (sym i.0) r.lawful)

same_reached : (bs : List ℕ) (before other : List Route) (at to : ℕ) → Reached bs before at → Reached bs other to → length before ≡ length other → (before ≡ other) × (at ≡ to)
same_reached bs before other at to r s e =
    let i = reached_is bs before at r in
    let j = reached_is bs other to s in
    (sym i.0 ∙ ap (first_routes bs) e ∙ j.0, sym i.1 ∙ ap (first_end bs) e ∙ j.1)

one_place : (bs : List ℕ) (p q : ℕ) → RefusedAt bs p → RefusedAt bs q → p ≡ q
one_place bs p q (RefusedAt.in_header k h all breaks e) (RefusedAt.in_header j i every fails f) =
    e ∙ ap header_place (first_broken (HeaderRule bs) k j all breaks every fails) ∙ sym f
one_place bs p q (RefusedAt.in_header k h all breaks e) (RefusedAt.in_route other to j s total i every fails f) =
    absurd (breaks (s.header k h))
one_place bs p q (RefusedAt.in_header k h all breaks e) (RefusedAt.left_over other s total i) =
    absurd (breaks (s.header k h))
one_place bs p q (RefusedAt.in_route before at k r count h all breaks e) (RefusedAt.in_header j i every fails f) =
    absurd (fails (r.header j i))
one_place bs p q (RefusedAt.in_route before at k r count h all breaks e) (RefusedAt.in_route other to j s total i every fails f) =
    ⊎_elim
    (λ same.
    let is = same_reached bs before other at to r s same in
    let AllThere = subst₂ (λ rs a. (i : ℕ) → i < k → Kept bs rs a i) is.0 is.1 all in
    let breaks_there = subst₂ (λ rs a. Kept bs rs a k → ⊥) is.0 is.1 breaks in
    let kj = first_broken (Kept bs other to) k j AllThere breaks_there every fails in
    omega (arith, is.1))
    (λ apart.
    ⊎_elim
    (λ lt. let g = follows bs other to s in absurd (breaks (no_break bs before at (length other) k r lt g.0 g.1 h)))
    (λ gt. let g = follows bs before at r in absurd (fails (no_break bs other to (length before) j s gt g.0 g.1 i)))
    apart)
    (cases_order (length before) (length other))
one_place bs p q (RefusedAt.in_route before at k r count h all breaks e) (RefusedAt.left_over other s total i) =
    let f = follows bs other q s in
    absurd (breaks (no_break bs before at (length other) k r (omega arith) f.0 f.1 h))
one_place bs p q (RefusedAt.left_over before r count h) (RefusedAt.in_header j i every fails f) =
    absurd (fails (r.header j i))
one_place bs p q (RefusedAt.left_over before r count h) (RefusedAt.in_route other to j s total i every fails f) =
    let g = follows bs before p r in
    absurd (fails (no_break bs other to (length before) j s (omega arith) g.0 g.1 i))
one_place bs p q (RefusedAt.left_over before r count h) (RefusedAt.left_over other s total i) =
    (same_reached bs before other p q r s (count ∙ sym total)).1

pub settled : (bs : List ℕ) → Settled bs
settled bs = record { one_place = one_place bs; never_both = refused_not_accepted bs }
