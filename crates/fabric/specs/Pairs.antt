-- Ordered pairs of terminals.
use Rattle.std.specs.Prelude.{ℕ, Bool, not, ◌&&◌, ◌==◌, nat_lt}
use Rattle.fabric.specs.declared.pairs.Pair.{Pair}

-- the pair is two different terminals, both below n
abbrev pub two_of : ℕ → Pair → Bool
two_of n p = nat_lt p.source n && (nat_lt p.destination n && not (p.source == p.destination))
