-- What a fabric is: its terminals, its links, and the route of each ordered pair of terminals.
use Rattle.std.specs.Prelude.{◌≡◌, ℕ, ◌<◌, ◌≤◌, Bool, true, ◌≢◌}
use Rattle.fabric.specs.declared.pairs.Pair.{Pair}

-- A pair has no route (`routed` is false of it), or its route is the set of the links that `crossed` is true of.
pub record Meaning : Type 0 where
  pub terminals : ℕ
  pub links : ℕ
  pub routed : Pair → Bool
  pub crossed : Pair → ℕ → Bool

-- What is true of every fabric.
pub record KeepsRoutes (m : Meaning) : Type 0 where
  -- 2 to 128 terminals and 1 to 256 links
  pub terminals_least : 2 ≤ m.terminals
  pub terminals_most : m.terminals ≤ 128
  pub links_least : 1 ≤ m.links
  pub links_most : m.links ≤ 256
  -- a route has a link, and only links of the fabric
  pub crosses_some : (p : Pair) → m.routed p ≡ true → (k : ℕ) × (m.crossed p k ≡ true)
  pub crosses_below : (p : Pair) (k : ℕ) → m.crossed p k ≡ true → k < m.links
  -- without a route nothing is crossed
  pub crosses_routed : (p : Pair) (k : ℕ) → m.crossed p k ≡ true → m.routed p ≡ true
  -- a route joins two different terminals of the fabric
  pub apart : (p : Pair) → m.routed p ≡ true → p.source ≢ p.destination
  pub source_below : (p : Pair) → m.routed p ≡ true → p.source < m.terminals
  pub destination_below : (p : Pair) → m.routed p ≡ true → p.destination < m.terminals
