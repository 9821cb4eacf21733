-- What a table of slots holds.
use Rattle.std.specs.Prelude.{ℕ, Bool, slice_index_or}
use Rattle.planner.specs.declared.slots.SlotTable.{SlotTable}
use Rattle.planner.specs.FlowSets.{members}

-- the flow f holds the slot s; a slot past the table is held by none
abbrev pub holds : SlotTable → ℕ → ℕ → Bool
holds table f s = members (slice_index_or table.slots s (record { 0 = 0 })) f
