-- Sets of links: link k is in a set if bit k % 64 of its word k / 64 is 1.
use Rattle.std.specs.Prelude.{ℕ, ◌/◌, ◌%◌, Bool, ◌&&◌, slice_index}
use Rattle.planner.specs.declared.link_sets.LinkSet.{LinkSet}
use Rattle.planner.specs.FlowSets.{bit}
use Rattle.planner.specs.Slots.{some_below}

-- the link is in the set
abbrev pub crossing : LinkSet → ℕ → Bool
crossing set k = bit (slice_index set.words (k / 64)) (k % 64)

-- some link is crossed by both routes; links are numbered below 256
abbrev pub share : (ℕ → Bool) → (ℕ → Bool) → Bool
share a b = some_below (λ k. a k && b k) 256
