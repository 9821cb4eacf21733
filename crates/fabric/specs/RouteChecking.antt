-- What the parts of `check` find: the header's numbers, and the bytes of one route. A reader need not believe it, since the
-- contract of `check` does not name it.
use Rattle.std.specs.Prelude.{◌≡◌, ℕ, ◌+◌, ◌<◌, List, [], ◌∷◌, slice_index}
use Rattle.fabric.specs.declared.faults.FabricFault.{FabricFault}
use Rattle.fabric.specs.Faults.{numbered}
use Rattle.fabric.specs.RouteLists.{Route}
use Rattle.fabric.specs.RouteRefusals.{HeaderRule, header_place, Kept, stated_terminals, stated_links, stated_routes}

-- the header keeps its rules and states these numbers
pub record HeaderRead (bs : List ℕ) (terminals links routes : ℕ) : Type 0 where
  pub rules : (k : ℕ) → k < 4 → HeaderRule bs k
  pub terminals_are : terminals ≡ stated_terminals bs
  pub links_are : links ≡ stated_links bs
  pub routes_are : routes ≡ stated_routes bs

-- the fault names the first field of the header that breaks its rule
abbrev pub HeaderBroken : List ℕ → FabricFault → Type 0
HeaderBroken bs fault =
    (k : ℕ)
    × (k < 4)
    × ((j : ℕ) → j < k → HeaderRule bs j)
    × (HeaderRule bs k → ⊥)
    × (numbered fault ≡ (3, header_place k ∷ []))

-- the fault names the first byte that is missing or breaks its rule, in the route that begins at `at`
abbrev pub RouteBroken : List ℕ → List Route → ℕ → FabricFault → Type 0
RouteBroken bs before at fault =
    (k : ℕ)
    × (k < 3 + slice_index bs (at + 2))
    × ((j : ℕ) → j < k → Kept bs before at j)
    × (Kept bs before at k → ⊥)
    × (numbered fault ≡ (3, (at + k) ∷ []))
