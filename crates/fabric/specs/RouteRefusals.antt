-- Where bytes that are no lawful list are refused: at the first field that is missing or breaks its rule.
use Rattle.std.specs.Prelude.{◌≡◌, ℕ, zero, suc, ◌+◌, ◌-◌, ◌*◌, ◌<◌, ◌≤◌, false, List, [], ◌∷◌, ◌++◌, length, drop, ◌≢◌, slice_index}
use Rattle.std.specs.List.{flat_map}
use Rattle.fabric.specs.declared.faults.FabricFault.{FabricFault}
use Rattle.fabric.specs.Faults.{numbered}
use Rattle.fabric.specs.RouteLists.{Route, some_joins, LawfulRoutes, TerminalCount, LinkCount, encode_route, Accepted}

-- the numbers that the header states: how many terminals, links and routes
abbrev pub stated_terminals : List ℕ → ℕ
stated_terminals bs = slice_index bs 3

abbrev pub stated_links : List ℕ → ℕ
stated_links bs = slice_index bs 4 * 256 + slice_index bs 5

abbrev pub stated_routes : List ℕ → ℕ
stated_routes bs = slice_index bs 6

-- The header's fields in byte order, each with its rule, and the place where it begins: the size (there are seven bytes and
-- more, and as many after the second as the first two say), the version, the terminal count, the link count.
abbrev pub HeaderRule : List ℕ → ℕ → Type 0
HeaderRule bs zero = (7 ≤ length bs) × (slice_index bs 0 * 256 + slice_index bs 1 ≡ length bs - 2)
HeaderRule bs (suc zero) = slice_index bs 2 ≡ 1
HeaderRule bs (suc (suc zero)) = TerminalCount (stated_terminals bs)
HeaderRule bs (suc (suc (suc k))) = LinkCount (stated_links bs)

abbrev pub header_place : ℕ → ℕ
header_place k = slice_index (0 ∷ 2 ∷ 3 ∷ 4 ∷ []) k

-- The rule of byte k of a route that begins at `at`, after the routes `before`. Byte 0 is its source, a terminal; byte 1 its
-- destination, another terminal, and the pair of both is not that of a route before it; byte 2 counts its links; the others are links.
abbrev pub RouteRule : List ℕ → List Route → ℕ → ℕ → Type 0
RouteRule bs before at zero = slice_index bs at < stated_terminals bs
RouteRule bs before at (suc zero) =
    (slice_index bs (at + 1) < stated_terminals bs)
    × (slice_index bs at ≢ slice_index bs (at + 1))
    × (some_joins before (record { source = slice_index bs at; destination = slice_index bs (at + 1) }) ≡ false)
RouteRule bs before at (suc (suc zero)) = 1 ≤ slice_index bs (at + 2)
RouteRule bs before at (suc (suc (suc k))) = slice_index bs (at + suc (suc (suc k))) < stated_links bs

-- the byte is there and keeps its rule
abbrev pub Kept : List ℕ → List Route → ℕ → ℕ → Type 0
Kept bs before at k = (at + k < length bs) × RouteRule bs before at k

-- The header keeps its rules, and then the bytes up to the place `at` are those of the routes `before`, which keep theirs.
pub record Reached (bs : List ℕ) (before : List Route) (at : ℕ) : Type 0 where
  pub header : (k : ℕ) → k < 4 → HeaderRule bs k
  pub written : drop 7 bs ≡ flat_map encode_route before ++ drop at bs
  pub within : at ≤ length bs
  pub lawful : LawfulRoutes (stated_terminals bs) (stated_links bs) before

-- Where the bytes are refused.
pub data RefusedAt (bs : List ℕ) (place : ℕ) : Type 0 where
  -- at the first field of the header that breaks its rule
  in_header : (k : ℕ) → k < 4 → ((j : ℕ) → j < k → HeaderRule bs j) → (HeaderRule bs k → ⊥) → place ≡ header_place k → RefusedAt bs place
  -- at the first byte that is missing or breaks its rule, in a route that is still to come after whole ones; it has three bytes
  -- and as many links as its third byte says
  in_route : (before : List Route) (at k : ℕ) → Reached bs before at → length before < stated_routes bs → k < 3 + slice_index bs (at + 2) → ((j : ℕ) → j < k → Kept bs before at j) → (Kept bs before at k → ⊥) → place ≡ at + k → RefusedAt bs place
  -- at the first byte that is left over after the last route
  left_over : (before : List Route) → Reached bs before place → length before ≡ stated_routes bs → place < length bs → RefusedAt bs place

-- the fault says so: it is number 3, with the place
abbrev pub RefusedBy : List ℕ → FabricFault → Type 0
RefusedBy bs fault = (place : ℕ) × (numbered fault ≡ (3, place ∷ [])) × RefusedAt bs place

-- there is one such place at most, and none where the bytes are those of a lawful list
pub record Settled (bs : List ℕ) : Type 0 where
  pub one_place : (p q : ℕ) → RefusedAt bs p → RefusedAt bs q → p ≡ q
  pub never_both : (p : ℕ) → RefusedAt bs p → Accepted bs → ⊥
