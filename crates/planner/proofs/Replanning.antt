-- What the placing of the booked flows says of a plan.
use Rattle.std.proofs.Common.{◌≡◌, ℕ, ◌<◌, Bool, true, List, get_or, is_some, Ok, Err, sym, refl, inl, inr, ◌∙◌, subst, ⊎_elim}
use mathlib.Core.Path.{fun_ext}
use Rattle.std.proofs.lemmas.Bool.{both_ways, cases_Bool}
use Rattle.planner.specs.declared.bookings.Bookings.{Bookings}
use Rattle.planner.specs.declared.flow_sets.FlowSet.{FlowSet}
use Rattle.planner.specs.declared.overlaps.Overlaps.{Overlaps}
use Rattle.planner.specs.declared.slots.SlotTable.{SlotTable}
use Rattle.planner.specs.declared.unplaced.Unplaced.{Unplaced}
use Rattle.planner.specs.declared.unplaced.Unplaced.TheVariants.{NoOrder, NoPlacing}
use Rattle.planner.specs.Bookings.{booking_at, booked_flow, booked_load, demand_of, overlap_of}
use Rattle.planner.specs.FlowSets.{members}
use Rattle.planner.specs.Groups.{overlapping}
use Rattle.planner.specs.Loads.{load_of}
use Rattle.planner.specs.Orders.{has}
use Rattle.planner.specs.Placements.{PlacedInOrder, Unplanned}
use Rattle.planner.specs.PlanFaults.{fault_of}
use Rattle.planner.specs.Planning.{Planned}
use Rattle.planner.specs.Slots.{Load}
use Rattle.planner.specs.Tables.{holds}
use Rattle.planner.proofs.Memory.{routes_in, some_flow}
use Rattle.planner.proofs.SameLoad.{booked_load_is}

-- only flows of p hold slots
pub placed_owned : (load : Load) (p : ℕ → Bool) (t : ℕ → ℕ → Bool) → PlacedInOrder load p t → (f s : ℕ) → t f s ≡ true → p f ≡ true
placed_owned load p t so f s held =
    ⊎_elim
    (λ in'. so.order.lists f ∙ in')
    (λ out. absurd (both_ways (t f s) (so.placed.others f s out) held))
    (cases_Bool (has so.chosen f))

-- and only slots of the period
pub placed_within : (load : Load) (p : ℕ → Bool) (t : ℕ → ℕ → Bool) → PlacedInOrder load p t → (f s : ℕ) → t f s ≡ true → s < load.period
placed_within load p t so f s held = so.fits.placing.inside f s (placed_owned load p t so f s held) held

-- what was found of the load in groups and a list holds of the bookings in memory
pub of_bookings : (bs : Bookings) (flows : FlowSet) (overlaps : Overlaps) (demands : List ℕ) (period : ℕ) →
    ((n : ℕ) → members flows n ≡ is_some (booking_at bs n)) → ((f g : ℕ) → overlapping overlaps.groups f g ≡ overlap_of (routes_in bs) f g) →
    ((n : ℕ) → get_or demands n 0 ≡ demand_of (booked_flow (booking_at bs n))) →
    (P : Load → (ℕ → Bool) → Type 0) → P (load_of overlaps demands period) (members flows) →
    P (booked_load (λ n. booked_flow (booking_at bs n)) (routes_in bs) period) (λ n. is_some (booked_flow (booking_at bs n)))
of_bookings bs flows overlaps demands period is ov d P h =
    booked_load_is overlaps demands period (λ n. booked_flow (booking_at bs n)) (routes_in bs) ov d (λ load. P load (λ n. is_some (booked_flow (booking_at bs n))))
    (subst (λ p. P (load_of overlaps demands period) p) (fun_ext (λ n. is n ∙ sym (some_flow (booking_at bs n)))) h)

-- how the planning comes out, as a re-plan's rule has it
pub placed_in_order : (load : Load) (p : ℕ → Bool) (table : SlotTable) → Planned load p (Ok table) → PlacedInOrder load p (holds table)
placed_in_order load p table so = record { chosen = so.0; chosen_is = so.1; order = so.2; placed = so.3; fits = so.4 }

pub unplanned : (load : Load) (p : ℕ → Bool) (u : Unplaced) → Planned load p (Err u) → Unplanned load p (fault_of u)
unplanned load p (NoOrder group) so = (group.0, inl (refl, so))
unplanned load p (NoPlacing group) so = (group.0, inr (refl, record { chosen = so.0; chosen_is = so.1; order = so.2; short = so.3; crowded = so.4 }))
