-- A new flow beside what is booked.
use Rattle.std.proofs.Common.{◌≡◌, ℕ, ◌<◌, Bool, true, cond, eqb, is_some, Some, sym, ap, ◌∙◌, ⊎_elim}
use mathlib.Core.Path.{fun_ext}
use Rattle.std.proofs.lemmas.Bool.{cases_eq}
use Rattle.planner.specs.declared.bookings.Booking.{Booking}
use Rattle.planner.specs.declared.bookings.Bookings.{Bookings}
use Rattle.planner.specs.Bookings.{booking_at, kept_route}
use Rattle.planner.specs.LinkSets.{share}
use Rattle.planner.specs.Slots.{Given}
use Rattle.planner.proofs.Memory.{set_other_booked, set_here_booked}

-- the flows that meet the links of a route are those that share one with it
pub beside_is : (bs : Bookings) (met links route : ℕ → Bool) → ((n : ℕ) → met n ≡ share links (kept_route (booking_at bs n))) → ((k : ℕ) → links k ≡ route k) →
    met ≡ (λ n. share route (kept_route (booking_at bs n)))
beside_is bs met links route is same = fun_ext (λ n. is n ∙ ap (λ r. share r (kept_route (booking_at bs n))) (fun_ext same))

-- after a flow was given slots and booked, only booked flows hold slots, and only slots of the period
module _ (bs new : Bookings) (t u : ℕ → ℕ → Bool) (n : ℕ) (b : Booking) (k : ℕ → Bool) (d period : ℕ) (given : Given t u 64 n k d period)
    (is : (i : ℕ) → booking_at new i ≡ cond (eqb i n) (Some b) (booking_at bs i)) where
  pub owned_after : ((k s : ℕ) → t k s ≡ true → is_some (booking_at bs k) ≡ true) → (k s : ℕ) → u k s ≡ true → is_some (booking_at new k) ≡ true
  owned_after owned k s held =
      ⊎_elim
      (λ (e : k ≡ n). set_here_booked bs new n (Some b) is k e (λ i. true))
      (λ ne. set_other_booked bs new n (Some b) is k ne (owned k s (sym (given.others k s ne) ∙ held)))
      (cases_eq k n)

  pub within_after : ((k s : ℕ) → t k s ≡ true → s < period) → (k s : ℕ) → u k s ≡ true → s < period
  within_after within k s held =
      ⊎_elim
      (λ (e : k ≡ n). given.earliest.inside s (ap (λ i. u i s) (sym e) ∙ held))
      (λ ne. within k s (sym (given.others k s ne) ∙ held))
      (cases_eq k n)
