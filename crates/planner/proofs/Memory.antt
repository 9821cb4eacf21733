-- The bookings in a plan's memory.
use Rattle.std.proofs.Common.{◌≡◌, ℕ, ◌<◌, ◌≤◌, Bool, true, false, cond, not, eqb, is_some, Some, None, Option, refl, ap, ◌∙◌, ⊎_elim}
use Rattle.std.proofs.lemmas.Bool.{true≢false, false≢true, and_right, cases_lt, eq-eqb, ne_eqb, cond-true, cond-false}
use Rattle.planner.specs.declared.bookings.Booking.{Booking}
use Rattle.planner.specs.declared.bookings.Bookings.{Bookings}
use Rattle.planner.specs.Bookings.{booking_at, booked_flow, kept_route, overlap_of}
use Rattle.planner.specs.LinkSets.{share}
use Rattle.planner.proofs.Sharing.{share_none}

-- the route of what is not booked shares no link
pub none_shares : (mine : ℕ → Bool) (o : Option Booking) → o ≡ None → share mine (kept_route o) ≡ false
none_shares mine o e = ap (λ b. share mine (kept_route b)) e ∙ share_none mine (kept_route None) (λ k a b. false≢true b)

-- what is not booked by any booking is not booked
pub unbooked : (o : Option Booking) → ((b : Booking) → o ≡ Some b → ⊥) → o ≡ None
unbooked None no_booking = refl
unbooked (Some b) no_booking = absurd (no_booking b refl)

-- the routes that are kept
abbrev pub routes_in : Bookings → ℕ → ℕ → Bool
routes_in bs n = kept_route (booking_at bs n)

-- what is not booked overlaps nothing
pub none_overlaps : (bs : Bookings) (n g : ℕ) → booking_at bs n ≡ None → overlap_of (routes_in bs) n g ≡ false
none_overlaps bs n g e = and_right (not (eqb n g)) (share (routes_in bs n) (routes_in bs g)) (ap (λ b. share (kept_route b) (routes_in bs g)) e ∙ share_none (kept_route None) (routes_in bs g) (λ k a b. false≢true a))

pub some_flow : (o : Option Booking) → is_some (booked_flow o) ≡ is_some o
some_flow None = refl
some_flow (Some b) = refl

-- the bookings with another entry at n
module _ (bs new : Bookings) (n : ℕ) (o : Option Booking) (is : (k : ℕ) → booking_at new k ≡ cond (eqb k n) o (booking_at bs k)) where
  -- another entry is still booked
  pub set_other_booked : (k : ℕ) → (k ≡ n → ⊥) → is_some (booking_at bs k) ≡ true → is_some (booking_at new k) ≡ true
  set_other_booked k ne booked = ap is_some (is k ∙ cond-false (eqb k n) o (booking_at bs k) (ne_eqb k n ne)) ∙ booked

  pub set_here_booked : (k : ℕ) → k ≡ n → is_some o ≡ true → is_some (booking_at new k) ≡ true
  set_here_booked k e booked = ap is_some (is k ∙ cond-true (eqb k n) o (booking_at bs k) (eq-eqb k n e)) ∙ booked

pub no_booking : (o : Option Booking) → is_some (booked_flow o) ≡ false → o ≡ None
no_booking None e = refl
no_booking (Some b) e = absurd (true≢false e)

-- what agrees below 64, and from 64 on, agrees
pub by_number : {A : Type 0} (f g : ℕ → A) → ((n : ℕ) → n < 64 → f n ≡ g n) → ((n : ℕ) → 64 ≤ n → f n ≡ g n) → (n : ℕ) → f n ≡ g n
by_number f g low past n = ⊎_elim (low n) (past n) (cases_lt n 64)
