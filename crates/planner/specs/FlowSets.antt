-- Sets of flows: flow n is in a set if bit n of its number is 1.
use Rattle.std.specs.Prelude.{ℕ, ◌/◌, ◌%◌, ◌^◌, Bool, ◌==◌}
use Rattle.planner.specs.declared.flow_sets.FlowSet.{FlowSet}

-- whether bit n of a number is 1
abbrev pub bit : ℕ → ℕ → Bool
bit number n = number / 2 ^ n % 2 == 1

-- the flows of a set
abbrev pub members : FlowSet → ℕ → Bool
members set n = bit set.0 n
