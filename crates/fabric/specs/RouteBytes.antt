-- Routes in bytes: what stands at a place, and what the bytes of routes are.
use Rattle.std.proofs.Common.{◌≡◌, ℕ, zero, suc, ◌+◌, ◌<◌, ◌≤◌, List, [], ◌∷◌, ◌++◌, length, get_or, take, drop, refl, ap, ◌∙◌, arith}
use Rattle.std.proofs.lemmas.List.{append_assoc, length-drop, length-take, length-append, take-append-drop, drop-drop, drop_more, take_at, drop_at}
use Rattle.std.specs.List.{flat_map}
use Rattle.fabric.specs.RouteLists.{Route, encode_route}
use Rattle.fabric.specs.RouteReading.{route_at, next_at, routes_from, end_from}

-- one more route at the end
pub end_more : (bs : List ℕ) (n at : ℕ) → end_from bs (suc n) at ≡ next_at bs (end_from bs n at)
unfolding end_from
end_more bs zero at = refl
end_more bs (suc n) at = end_more bs n (next_at bs at)

pub routes_more : (bs : List ℕ) (n at : ℕ) → routes_from bs (suc n) at ≡ routes_from bs n at ++ route_at bs (end_from bs n at) ∷ []
unfolding routes_from end_from
routes_more bs zero at = refl
routes_more bs (suc n) at = ap (λ rs. route_at bs at ∷ rs) (routes_more bs n (next_at bs at))

pub end_above : (bs : List ℕ) (n at : ℕ) → at ≤ end_from bs n at
unfolding end_from
end_above bs zero at = omega arith
end_above bs (suc n) at = omega (arith, end_above bs n (next_at bs at))

pub length_routes : (bs : List ℕ) (n at : ℕ) → length (routes_from bs n at) ≡ n
unfolding routes_from
length_routes bs zero at = refl
length_routes bs (suc n) at = ap suc (length_routes bs n (next_at bs at))

-- a byte at the front of what is left
pub drop_head : (bs : List ℕ) (at x : ℕ) (ys : List ℕ) → drop at bs ≡ x ∷ ys → (at < length bs) × (get_or bs at 0 ≡ x) × (drop (at + 1) bs ≡ ys)
drop_head bs at x ys e =
    let lt : at < length bs = omega (arith, simp length-drop at (ap length e)) in
    let m = drop_more bs at 0 lt in
    (lt, cc, cc)

-- a whole route and what comes after it
pub drop_route : (bs : List ℕ) (at : ℕ) → next_at bs at ≤ length bs → drop at bs ≡ encode_route (route_at bs at) ++ drop (next_at bs at) bs
drop_route bs at fits =
    let h : ℕ = get_or bs (at + 2) 0 in
    let d0 = drop_more bs at 0 (omega arith) in
    let d1 = drop_more bs (at + 1) 0 (omega arith) in
    let d2 = drop_more bs (at + 2) 0 (omega arith) in
    let e1 : at + 1 + 1 ≡ at + 2 = omega arith in
    let e2 : at + 2 + 1 ≡ at + 3 = omega arith in
    let e3 : at + 3 + h ≡ next_at bs at = omega arith in
    let size : length (take h (drop (at + 3) bs)) ≡ h = simp (length-take, length-drop) (omega arith) in
    let parts = take-append-drop h (drop (at + 3) bs) in
    let rest = drop-drop h (at + 3) bs in
    cc

-- the bytes of the n routes from a place on
pub drop_routes : (bs : List ℕ) (n at : ℕ) → end_from bs n at ≤ length bs → drop at bs ≡ flat_map encode_route (routes_from bs n at) ++ drop (end_from bs n at) bs
unfolding end_from routes_from
drop_routes bs zero at fits = refl
drop_routes bs (suc n) at fits =
    let first = drop_route bs at (omega (arith, end_above bs n (next_at bs at))) in
    let others = drop_routes bs n (next_at bs at) fits in
    let split = append_assoc (route_at bs at).links (flat_map encode_route (routes_from bs n (next_at bs at))) (drop (end_from bs n (next_at bs at)) bs) in
    cc

-- a route whose bytes stand at a place is the one that is read there
pub route_back : (bs : List ℕ) (r : Route) (rest : List ℕ) (at : ℕ) → drop at bs ≡ encode_route r ++ rest → (route_at bs at ≡ r) × (drop (next_at bs at) bs ≡ rest) × (next_at bs at ≤ length bs)
route_back bs r rest at e =
    let h : ℕ = length r.links in
    let p0 = drop_head bs at r.source _ e in
    let p1 = drop_head bs (at + 1) r.destination _ p0.2 in
    let e1 : at + 1 + 1 ≡ at + 2 = omega arith in
    let e2 : at + 2 + 1 ≡ at + 3 = omega arith in
    let p2 = drop_head bs (at + 2) h (r.links ++ rest) (rw (← e1) p1.2) in
    let left : drop (at + 3) bs ≡ r.links ++ rest = rw (← e2) p2.2 in
    let named : take (get_or bs (at + 2) 0) (drop (at + 3) bs) ≡ r.links = rw (p2.1, left, take_at r.links rest h refl) in
    let e3 : next_at bs at ≡ at + 3 + h = omega (arith, p2.1) in
    let past : drop (next_at bs at) bs ≡ rest =
    rw (e3, ← drop-drop h (at + 3) bs, left, drop_at r.links rest h refl) in (
      λ i. record { source = p0.1 i; destination = p1.1 i; links = named i },
      past,
      omega (arith, p2.0, simp (length-drop, length-append) at (ap length left)),
    )

-- routes whose bytes stand at a place are those that are read there
pub read_back : (bs : List ℕ) (rs : List Route) (at m : ℕ) → at ≤ length bs → m ≤ length bs → drop at bs ≡ flat_map encode_route rs ++ drop m bs → (routes_from bs (length rs) at ≡ rs) × (end_from bs (length rs) at ≡ m)
unfolding end_from routes_from
read_back bs [] at m a b e = (refl, omega (arith, simp length-drop at (ap length e)))
read_back bs (r ∷ rs) at m a b e =
    let one = route_back bs r (flat_map encode_route rs ++ drop m bs) at (e ∙ append_assoc (encode_route r) (flat_map encode_route rs) (drop m bs)) in
    let more = read_back bs rs (next_at bs at) m one.2 b one.1 in
    (λ i. one.0 i ∷ more.0 i, more.1)

-- the n-th of m routes, n below m
pub routes_split : (bs : List ℕ) (n m at : ℕ) → n < m → (more : List Route) × (routes_from bs m at ≡ routes_from bs n at ++ route_at bs (end_from bs n at) ∷ more) × (next_at bs (end_from bs n at) ≤ end_from bs m at)
unfolding routes_from end_from
routes_split bs zero zero at h = let z : ⊥ = omega arith in absurd z
routes_split bs zero (suc m) at h = (routes_from bs m (next_at bs at), refl, end_above bs m (next_at bs at))
routes_split bs (suc n) zero at h = let z : ⊥ = omega arith in absurd z
routes_split bs (suc n) (suc m) at h =
    let s = routes_split bs n m (next_at bs at) (omega arith) in
    (s.0, ap (λ rs. route_at bs at ∷ rs) s.1, s.2)
