-- The flows that are booked, their routes, and the load that they are.
-- A route r crosses the link k where r k ≡ true.
use Rattle.std.specs.Prelude.{◌≡◌, ℕ, ◌<◌, ◌≤◌, Bool, true, false, not, ◌&&◌, is_some, Some, None, Option, ◌==◌, slice_index_or}
use Rattle.std.proofs.Common.{sym, ap, ◌∙◌, ⊎_elim, subst}
use Rattle.std.proofs.Math.Path.{fun_ext}
use Rattle.std.proofs.lemmas.Bool.{eq-eqb, ne_eqb, cases_eq, cases_lt, both_ways}
use Rattle.std.proofs.lemmas.List.{get_or_past}
use Rattle.fabric.specs.Meaning.{Meaning}
use Rattle.planner.specs.declared.bookings.Booking.{Booking}
use Rattle.planner.specs.declared.bookings.Bookings.{Bookings}
use Rattle.planner.specs.declared.flows.Flow.{Flow}
use Rattle.planner.specs.LinkSets.{crossing, share}
use Rattle.planner.specs.Slots.{Load, some_below, free}

-- the demand of what is booked under a number: none where nothing is
abbrev pub demand_of : Option Flow → ℕ
demand_of None = 0
demand_of (Some f) = f.demand

-- the route of what is booked under a number, on a fabric: no link where nothing is
abbrev pub route_on : Meaning → Option Flow → ℕ → Bool
route_on m None k = false
route_on m (Some f) k = m.crossed f.ends k

-- two different flows overlap if their routes share a link
abbrev pub overlap_of : (ℕ → ℕ → Bool) → ℕ → ℕ → Bool
overlap_of route f g = not (f == g) && share (route f) (route g)

-- a slot is valid for a flow with that route if no flow whose route shares a link with it holds the slot
abbrev pub valid_beside : (ℕ → ℕ → Bool) → (ℕ → ℕ → Bool) → (ℕ → Bool) → ℕ → Bool
valid_beside holds route mine = free holds 64 (λ k. share mine (route k))

-- overlap is mutual
pub eqb_mutual : (f g : ℕ) → (f == g) ≡ (g == f)
eqb_mutual f g = ⊎_elim (λ e. eq-eqb f g e ∙ sym (eq-eqb g f (sym e))) (λ ne. ne_eqb f g ne ∙ sym (ne_eqb g f (λ e. ne (sym e)))) (cases_eq f g)

and_mutual : (a b : Bool) → (a && b) ≡ (b && a)
and_mutual true true = λ i. true
and_mutual true false = λ i. false
and_mutual false true = λ i. false
and_mutual false false = λ i. false

pub overlap_mutual : (route : ℕ → ℕ → Bool) (f g : ℕ) → overlap_of route f g ≡ overlap_of route g f
overlap_mutual route f g =
    ap (λ b. not b && share (route f) (route g)) (eqb_mutual f g)
    ∙ ap (λ q. not (g == f) && some_below q 256) (fun_ext (λ k. and_mutual (route f k) (route g k)))

-- the load that is booked: at most 64 flows, with their demands and routes
abbrev pub booked_load : (ℕ → Option Flow) → (ℕ → ℕ → Bool) → ℕ → Load
booked_load booked route period =
    record {
      flows = 64;
      overlap = overlap_of route;
      demand = λ n. demand_of (booked n);
      period = period;
      symmetric = overlap_mutual route;
    }

-- what a plan's memory says of a number: the flow booked under it, and the route that is kept for it
abbrev pub booked_flow : Option Booking → Option Flow
booked_flow None = None
booked_flow (Some b) = Some b.flow

abbrev pub kept_route : Option Booking → ℕ → Bool
kept_route None k = false
kept_route (Some b) k = crossing b.links k

abbrev pub booking_at : Bookings → ℕ → Option Booking
booking_at bookings n = slice_index_or bookings.entries n None

-- nothing is booked under 64 or above
pub none_past : (bs : Bookings) (n : ℕ) → 64 ≤ n → booking_at bs n ≡ None
none_past bs n past = get_or_past bs.entries n None (subst (λ m. m ≤ n) (sym bs.sized) past)

pub booked_numbered : (bs : Bookings) (n : ℕ) → is_some (booking_at bs n) ≡ true → n < 64
booked_numbered bs n is = ⊎_elim (λ low. low) (λ past. absurd (both_ways (is_some (booking_at bs n)) (ap is_some (none_past bs n past)) is)) (cases_lt n 64)
