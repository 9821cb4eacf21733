-- What a route list is, the bytes that write it, and the fabric that it describes.
use Rattle.std.specs.Prelude.{◌≡◌, ℕ, ◌/◌, ◌%◌, ◌<◌, ◌≤◌, Bool, false, ◌&&◌, List, [], ◌∷◌, ◌++◌, length, ◌==◌}
use Rattle.std.specs.List.{flat_map, list_any, AllByRecursion}
use Rattle.fabric.specs.declared.pairs.Pair.{Pair}
use Rattle.fabric.specs.Meaning.{Meaning}

-- A route: its two ends, and its links as they are named.
pub record Route : Type 0 where
  pub source : ℕ
  pub destination : ℕ
  pub links : List ℕ

-- A list: how many terminals and links its fabric has, and its routes in their order.
pub record Listing : Type 0 where
  pub terminals : ℕ
  pub links : ℕ
  pub routes : List Route

-- the ordered pair that a route joins
abbrev pub ends : Route → Pair
ends r = record { source = r.source; destination = r.destination }

-- whether the route is that of the pair
abbrev pub joins : Route → Pair → Bool
joins r p = r.source == p.source && r.destination == p.destination

-- whether the link is among these
abbrev pub among : ℕ → List ℕ → Bool
among k xs = list_any (λ x. x == k) xs

-- whether some route is that of the pair
abbrev pub some_joins : List Route → Pair → Bool
some_joins rs p = list_any (λ r. joins r p) rs

-- whether some route is that of the pair and names the link
abbrev pub some_crosses : List Route → Pair → ℕ → Bool
some_crosses rs p k = list_any (λ r. joins r p && among k r.links) rs

-- the fabric that a list describes
abbrev pub listed : Listing → Meaning
listed v =
    record { terminals = v.terminals; links = v.links; routed = some_joins v.routes; crossed = some_crosses v.routes }

-- two terminals, one link and no route
abbrev pub bare : Listing
bare = record { terminals = 2; links = 1; routes = [] }

-- What each route keeps in a fabric of t terminals and l links: two different terminals, and at least one link, each of the fabric.
pub record LawfulRoute (t l : ℕ) (r : Route) : Type 0 where
  pub source_below : r.source < t
  pub destination_below : r.destination < t
  pub apart : r.source ≡ r.destination → ⊥
  pub some_link : 1 ≤ length r.links
  pub links_below : AllByRecursion (λ k. k < l) r.links

-- no ordered pair comes twice
abbrev pub Distinct : List Route → Type 0
Distinct [] = Unit {0}
Distinct (r ∷ rs) = (some_joins rs (ends r) ≡ false) × Distinct rs

-- the routes keep what routes keep, each alone and all together
pub record LawfulRoutes (t l : ℕ) (rs : List Route) : Type 0 where
  pub each : AllByRecursion (LawfulRoute t l) rs
  pub distinct : Distinct rs

abbrev pub TerminalCount : ℕ → Type 0
TerminalCount t = (2 ≤ t) × (t ≤ 128)

abbrev pub LinkCount : ℕ → Type 0
LinkCount l = (1 ≤ l) × (l ≤ 256)

-- the rules of a list
pub record Lawful (v : Listing) : Type 0 where
  pub terminal_count : TerminalCount v.terminals
  pub link_count : LinkCount v.links
  pub routes_lawful : LawfulRoutes v.terminals v.links v.routes

-- a number in two bytes, the high one first
abbrev pub two_bytes : ℕ → List ℕ
two_bytes n = n / 256 ∷ n % 256 ∷ []

abbrev pub encode_route : Route → List ℕ
encode_route r = r.source ∷ r.destination ∷ length r.links ∷ r.links

-- all but the first two bytes: the version, the numbers of terminals, links and routes, and the routes
abbrev pub encode_rest : Listing → List ℕ
encode_rest v =
    1 ∷ v.terminals ∷ (two_bytes v.links ++ (length v.routes ∷ flat_map encode_route v.routes))

-- The bytes that write a list: how many follow, in two bytes, and those. A number too large for its place gives no byte there, so
-- no bytes write such a list.
abbrev pub encode : Listing → List ℕ
encode v = two_bytes (length (encode_rest v)) ++ encode_rest v

-- the bytes are those of some lawful list
abbrev pub Accepted : List ℕ → Type 0
Accepted bs = (v : Listing) × Lawful v × (encode v ≡ bs)

-- so they are, and that list has so many terminals, links and routes
abbrev pub AcceptedWith : List ℕ → ℕ → ℕ → ℕ → Type 0
AcceptedWith bs terminals links routes =
    (v : Listing)
    × Lawful v
    × (encode v ≡ bs)
    × (terminals ≡ v.terminals)
    × (links ≡ v.links)
    × (routes ≡ length v.routes)
