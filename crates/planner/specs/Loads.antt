-- The load that is to be placed: what overlaps, what each flow demands, and the period.
use Rattle.std.specs.Prelude.{ℕ, List, slice_index}
use Rattle.planner.specs.declared.overlaps.Overlaps.{Overlaps}
use Rattle.planner.specs.Groups.{overlapping}
use Rattle.planner.specs.Slots.{Load}

-- 64 flows, with their demands by number
abbrev pub load_of : Overlaps → List ℕ → ℕ → Load
load_of overlaps demands period =
    record {
      flows = 64;
      overlap = overlapping overlaps.groups;
      demand = λ f. slice_index demands f;
      period = period;
      symmetric = overlaps.symmetric;
    }
