use Rattle.std.proofs.Common.{◌≡◌, ℕ, Bool, false, Some, None, Option, sym, refl, ap, ◌∙◌, rules, MatchOption}
use Rattle.planner.specs.declared.bookings.Booking.{Booking}
use Rattle.planner.specs.Bookings.{kept_route}
use Rattle.planner.specs.LinkSets.{crossing, share}
use Rattle.planner.proofs.Memory.{none_shares}
use Rattle.planner.proofs.bookings.Bookings.meets.Goals as goal

told : (mine : ℕ → Bool) (o : Option Booking) (r : Bool) → MatchOption o (r ≡ false) (λ b. r ≡ share mine (crossing b.links)) → r ≡ share mine (kept_route o)
told mine None r e = e ∙ sym (none_shares mine None refl)
told mine (Some b) r e = e

pub returns : goal.returns
returns c =
    let mine = crossing c.args.links.now in
    told mine c.get.result c.is_some_and.result (search rules) ∙ ap (λ o. share mine (kept_route o)) c.get.ensures
