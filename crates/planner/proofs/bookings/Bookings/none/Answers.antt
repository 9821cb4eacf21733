use Rattle.std.proofs.Common.{◌≡◌, None, refl}
use Rattle.planner.proofs.Groups.{replicate_holds}
use Rattle.planner.proofs.bookings.Bookings.none.Goals as goal

pub returns : goal.returns
returns c = λ n. replicate_holds (λ o. o ≡ None) 64 n None None refl refl
