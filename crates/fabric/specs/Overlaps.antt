-- When two routes overlap.
use Rattle.std.specs.Prelude.{◌≡◌, ℕ, true}
use Rattle.fabric.specs.declared.pairs.Pair.{Pair}
use Rattle.fabric.specs.Meaning.{Meaning}

-- the link is crossed by both routes
abbrev pub Shared : Meaning → Pair → Pair → ℕ → Type 0
Shared m one other k = (m.crossed one k ≡ true) × (m.crossed other k ≡ true)

-- some link is crossed by both routes
abbrev pub Overlap : Meaning → Pair → Pair → Type 0
Overlap m one other = (k : ℕ) × Shared m one other k
