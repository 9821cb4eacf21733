-- A line of n terminals: link k joins terminals k and k + 1, and serves both directions.
use Rattle.std.specs.Prelude.{ℕ, ◌-◌, ◌≤◌, min, max, Bool, ◌&&◌, nat_le, nat_lt}
use Rattle.fabric.specs.declared.pairs.Pair.{Pair}
use Rattle.fabric.specs.Meaning.{Meaning}
use Rattle.fabric.specs.Pairs.{two_of}

-- how many terminals a line may have
abbrev pub LineSize : ℕ → Type 0
LineSize n = (2 ≤ n) × (n ≤ 128)

-- the route of a pair crosses the links from the smaller terminal up to the larger, which is left out
abbrev pub line_crossed : ℕ → Pair → ℕ → Bool
line_crossed n p k =
    two_of n p && (nat_le (min p.source p.destination) k && nat_lt k (max p.source p.destination))

-- every two different terminals have a route
abbrev pub line_meaning : ℕ → Meaning
line_meaning n = record { terminals = n; links = n - 1; routed = two_of n; crossed = line_crossed n }
