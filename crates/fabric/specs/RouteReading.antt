-- A list read off its bytes, by places: the one that was written where the bytes are those of a lawful list, and some list
-- anyhow elsewhere. A reader need not believe it, since the contract of `RouteList::new` ties it to `encode`.
use Rattle.std.specs.Prelude.{ℕ, zero, suc, ◌+◌, List, [], ◌∷◌, Option, take, drop, slice_index}
use Rattle.std.specs.List.{find}
use Rattle.std.specs.Option.{option_map}
use Rattle.fabric.specs.declared.pairs.Pair.{Pair}
use Rattle.fabric.specs.Meaning.{Meaning}
use Rattle.fabric.specs.RouteLists.{Route, Listing, listed, joins}
use Rattle.fabric.specs.RouteRefusals.{stated_terminals, stated_links, stated_routes}

-- the route that begins at a place, and where the next one does
abbrev pub route_at : List ℕ → ℕ → Route
route_at bs at =
    record { source = slice_index bs at; destination = slice_index bs (at + 1); links = take (slice_index bs (at + 2)) (drop (at + 3) bs) }

abbrev pub next_at : List ℕ → ℕ → ℕ
next_at bs at = at + (3 + slice_index bs (at + 2))

-- the n routes from a place on, and where they end
unfoldable pub routes_from : List ℕ → ℕ → ℕ → List Route
routes_from bs zero at = []
routes_from bs (suc n) at = route_at bs at ∷ routes_from bs n (next_at bs at)

unfoldable pub end_from : List ℕ → ℕ → ℕ → ℕ
end_from bs zero at = at
end_from bs (suc n) at = end_from bs n (next_at bs at)

-- the first n routes of a list, and where they end
abbrev pub first_routes : List ℕ → ℕ → List Route
first_routes bs n = routes_from bs n 7

abbrev pub first_end : List ℕ → ℕ → ℕ
first_end bs n = end_from bs n 7

abbrev pub decoded : List ℕ → Listing
decoded bs =
    record { terminals = stated_terminals bs; links = stated_links bs; routes = first_routes bs (stated_routes bs) }

-- the fabric that such bytes describe
abbrev pub bytes_meaning : List ℕ → Meaning
bytes_meaning bs = listed (decoded bs)

-- the links of the pair's route, if one of these is its
abbrev pub links_of : List Route → Pair → Option (List ℕ)
links_of rs p = option_map (λ r. r.links) (find (λ r. joins r p) rs)
