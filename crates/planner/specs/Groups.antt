-- Which flows overlap which, by a group for each flow.
use Rattle.std.specs.Prelude.{ℕ, Bool, ◌&&◌, ◌||◌, List, ◌==◌, slice_index_or}
use Rattle.planner.specs.declared.flow_sets.FlowSet.{FlowSet}
use Rattle.planner.specs.FlowSets.{members}

-- g is in the group of f
abbrev pub overlapping : List FlowSet → ℕ → ℕ → Bool
overlapping groups f g = members (slice_index_or groups f (record { 0 = 0 })) g

-- f and g are the two flows one and other, in either direction
abbrev pub is_pair : ℕ → ℕ → ℕ → ℕ → Bool
is_pair one other f g = f == one && g == other || f == other && g == one
