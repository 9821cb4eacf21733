-- The steps of the loops over a list's routes.
use Rattle.std.proofs.Common.{◌≡◌, ℕ, ◌+◌, ◌-◌, ◌≤◌, List, [], ◌∷◌, ◌++◌, zero, suc, get_or, take, drop, sym, refl, arith, add-one}
use Rattle.std.proofs.lemmas.List.{get_or-take, get_or-drop, drop-drop}
use Rattle.fabric.specs.RouteReading.{route_at, next_at, routes_from, end_from, first_routes, first_end}
use Rattle.fabric.specs.RouteBytes.{end_more, routes_more}

-- one more route of the first ones, by places
pub first_end_more : (bs : List ℕ) (n at : ℕ) → at ≡ first_end bs n → next_at bs at ≡ first_end bs (n + 1)
first_end_more bs n at e = rw (add-one, e) (sym (end_more bs n 7))

pub first_routes_more : (bs : List ℕ) (n at : ℕ) → at ≡ first_end bs n → first_routes bs (n + 1) ≡ first_routes bs n ++ route_at bs at ∷ []
first_routes_more bs n at e = rw (add-one n, e) (routes_more bs n 7)

pub none_at : (bs : List ℕ) → 7 ≡ first_end bs 0
unfolding end_from
none_at bs = refl

-- what stands at a place of the bytes left after the first k
shifted : (bs : List ℕ) (k at : ℕ) → (route_at (drop k bs) at ≡ route_at bs (k + at)) × (k + next_at (drop k bs) at ≡ next_at bs (k + at))
shifted bs k at =
    let e0 = get_or-drop k bs at 0 in
    let e1 = get_or-drop k bs (at + 1) 0 in
    let e2 = get_or-drop k bs (at + 2) 0 in
    let d = drop-drop (at + 3) k bs in
    let p1 : k + (at + 1) ≡ k + at + 1 = omega arith in
    let p2 : k + (at + 2) ≡ k + at + 2 = omega arith in
    let p3 : k + (at + 3) ≡ k + at + 3 = omega arith in
    let source : get_or (drop k bs) at 0 ≡ get_or bs (k + at) 0 = cc in
    let destination : get_or (drop k bs) (at + 1) 0 ≡ get_or bs (k + at + 1) 0 = cc in
    let count : get_or (drop k bs) (at + 2) 0 ≡ get_or bs (k + at + 2) 0 = cc in
    let links : take (get_or (drop k bs) (at + 2) 0) (drop (at + 3) (drop k bs)) ≡ take (get_or bs (k + at + 2) 0) (drop (k + at + 3) bs) = cc in
    (λ i. record { source = source i; destination = destination i; links = links i }, omega (arith, count))

-- routes read from a place on are those of the bytes that stand there
pub routes_left : (bs : List ℕ) (n k at : ℕ) → routes_from (drop k bs) n at ≡ routes_from bs n (k + at)
unfolding routes_from
routes_left bs zero k at = refl
routes_left bs (suc n) k at =
    let s = shifted bs k at in
    let more = routes_left bs n k (next_at (drop k bs) at) in
    cc

pub end_left : (bs : List ℕ) (n k at : ℕ) → k + end_from (drop k bs) n at ≡ end_from bs n (k + at)
unfolding end_from
end_left bs zero k at = refl
end_left bs (suc n) k at =
    let s = shifted bs k at in
    let more = end_left bs n k (next_at (drop k bs) at) in
    cc

-- the first of the routes left, whose first three bytes and the bytes after them are these, and the others
pub split_left : (bs head tail : List ℕ) (m n count : ℕ) → 1 ≤ m → n ≡ m - 1 → head ≡ take 3 bs → tail ≡ drop 3 bs → count ≡ get_or head 2 0 → (routes_from bs m 0 ≡ record { source = get_or head 0 0; destination = get_or head 1 0; links = take count tail } ∷ routes_from (drop count tail) n 0) × (end_from bs m 0 ≡ 3 + count + end_from (drop count tail) n 0)
unfolding routes_from end_from
split_left bs head tail m n count some less front back size =
    let e : m ≡ suc n = omega arith in
    let b0 = get_or-take 3 bs 0 0 (omega arith) in
    let b1 = get_or-take 3 bs 1 0 (omega arith) in
    let b2 = get_or-take 3 bs 2 0 (omega arith) in
    let d = drop-drop count 3 bs in
    let count_is : count ≡ get_or bs 2 0 = cc in
    let place : next_at bs 0 ≡ 3 + count + 0 = omega (arith, count_is) in
    let routes = routes_left bs n (3 + count) 0 in
    let ends = end_left bs n (3 + count) 0 in
    (rw e cc, rw e cc)
