use Rattle.std.proofs.Common.{◌≡◌, ℕ, true, false}
use Rattle.planner.specs.FlowSets.{members}
use Rattle.planner.specs.Groups.{overlapping}
use Rattle.planner.specs.Orders.{Within, MayComeLast}
use Rattle.planner.specs.Slots.{count}
use Rattle.planner.proofs.Lasts.{OverlapsRest}
use Rattle.planner.proofs.orders.last_of.Given as goal

-- none of the flows that are no candidates any more may come last
abbrev pub invariant-search : goal.invariant-search
invariant-search l =
    Within (members l.candidates) (members l.flows)
    × ((f : ℕ) → members l.candidates f ≡ false → MayComeLast (overlapping l.overlaps.groups) (members l.flows) f → ⊥)

abbrev pub decreases-search : goal.decreases-search
decreases-search l = count (members l.candidates) 64

-- each flow that was passed overlaps the rest
abbrev pub invariant-loop-other : goal.invariant-loop-other
invariant-loop-other l =
    Within (members l.others) (members l.beside)
    × ((f : ℕ) → members l.others f ≡ false → members l.beside f ≡ true → OverlapsRest (overlapping l.overlaps.groups) (members l.beside) f)

abbrev pub decreases-loop-other : goal.decreases-loop-other
decreases-loop-other l = count (members l.others) 64
