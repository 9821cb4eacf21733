-- How the planning of a set of flows comes out, and with which flows it is refused.
use Rattle.std.specs.Prelude.{ℕ, Bool, List, Ok, Err, Result}
use Rattle.planner.specs.declared.slots.SlotTable.{SlotTable}
use Rattle.planner.specs.declared.unplaced.Unplaced.{Unplaced}
use Rattle.planner.specs.declared.unplaced.Unplaced.TheVariants.{NoOrder, NoPlacing}
use Rattle.planner.specs.FlowSets.{members}
use Rattle.planner.specs.Orders.{Order, Chosen, Remains}
use Rattle.planner.specs.Placings.{PlacedAlong, ShortAlong, FitsAlong, Crowded}
use Rattle.planner.specs.Slots.{Load}
use Rattle.planner.specs.Tables.{holds}

-- the flows of p are placed along their chosen order, or have no order, or have one and no placing
abbrev pub Planned : Load → (ℕ → Bool) → Result SlotTable Unplaced → Type 0
Planned load p (Ok table) =
    (xs : List ℕ) × Chosen load.overlap p xs × Order load.overlap p xs × PlacedAlong load xs (holds table) × FitsAlong load p xs (holds table)
Planned load p (Err (NoOrder group)) = Remains load.overlap p (members group)
Planned load p (Err (NoPlacing group)) =
    (xs : List ℕ) × Chosen load.overlap p xs × Order load.overlap p xs × ShortAlong load xs (members group) × Crowded load p (members group)
