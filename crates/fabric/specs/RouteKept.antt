-- The bytes that a route list keeps: they are accepted, and what a reader needs of that.
use Rattle.std.proofs.Common.{◌≡◌, ℕ, ◌<◌, false, List, [], ◌∷◌, length, sym, refl, ap, subst, arith}
use Rattle.std.proofs.Math.Bool.{Bool-set}
use Rattle.std.proofs.Math.Logic.{∥∥₁_elim}
use Rattle.std.proofs.Math.Bridge.{le_prop}
use Rattle.std.proofs.Math.Nat.{ℕ_set}
use Rattle.std.specs.List.{AllByRecursion}
use Rattle.fabric.specs.RouteLists.{Route, Listing, LawfulRoute, Lawful, Distinct, some_joins, ends, Accepted, encode, listed, bare}
use Rattle.fabric.specs.RouteReading.{decoded, first_end, bytes_meaning}
use Rattle.fabric.specs.RouteRefusals.{stated_routes}
use Rattle.fabric.specs.RouteAccepted.{reads_as}

-- being lawful can be shown in one way only
all_prop : {X : Type 0} (P : X → Type 0) → ((x : X) → IsProp (P x)) → (xs : List X) → IsProp (AllByRecursion P xs)
all_prop P each [] a b = refl
all_prop P each (x ∷ xs) a b = λ i. (each x a.0 b.0 i, all_prop P each xs a.1 b.1 i)

apart_prop : (m n : ℕ) → IsProp (m ≡ n → ⊥)
apart_prop m n = hlevel

route_prop : (t l : ℕ) (r : Route) → IsProp (LawfulRoute t l r)
route_prop t l r a b = λ i. record {
  source_below = le_prop a.source_below b.source_below i;
  destination_below = le_prop a.destination_below b.destination_below i;
  apart = apart_prop r.source r.destination a.apart b.apart i;
  some_link = le_prop a.some_link b.some_link i;
  links_below = all_prop (λ k. k < l) (λ k. le_prop) r.links a.links_below b.links_below i;
}

distinct_prop : (rs : List Route) → IsProp (Distinct rs)
distinct_prop [] a b = refl
distinct_prop (r ∷ rs) a b = λ i. (Bool-set (some_joins rs (ends r)) false a.0 b.0 i, distinct_prop rs a.1 b.1 i)

lawful_prop : (v : Listing) → IsProp (Lawful v)
lawful_prop v a b = λ i. record {
  terminal_count = (le_prop a.terminal_count.0 b.terminal_count.0 i, le_prop a.terminal_count.1 b.terminal_count.1 i);
  link_count = (le_prop a.link_count.0 b.link_count.0 i, le_prop a.link_count.1 b.link_count.1 i);
  routes_lawful = record {
    each = all_prop (LawfulRoute v.terminals v.links) (route_prop v.terminals v.links) v.routes a.routes_lawful.each b.routes_lawful.each i;
    distinct = distinct_prop v.routes a.routes_lawful.distinct b.routes_lawful.distinct i;
  };
}

-- what accepted bytes read as
pub kept_lawful : (bs : List ℕ) → ∥ Accepted bs ∥₁ → Lawful (decoded bs)
kept_lawful bs kept =
    ∥∥₁_elim kept (lawful_prop (decoded bs)) (λ a. subst Lawful (sym (reads_as a.0 bs a.1 a.2).is) a.1)

pub kept_whole : (bs : List ℕ) → ∥ Accepted bs ∥₁ → first_end bs (stated_routes bs) ≡ length bs
kept_whole bs kept = ∥∥₁_elim kept (ℕ_set _ _) (λ a. (reads_as a.0 bs a.1 a.2).whole)

-- the fabric with no route is lawful
pub bare_lawful : Lawful bare
bare_lawful =
    record { terminal_count = (omega arith, omega arith); link_count = (omega arith, omega arith); routes_lawful = record { each = tt; distinct = tt } }

-- bytes that write a list describe its fabric
pub read_meaning : (v : Listing) (bs : List ℕ) → Lawful v → encode v ≡ bs → bytes_meaning bs ≡ listed v
read_meaning v bs ok e = ap listed (reads_as v bs ok e).is
