-- Histories of calls, the newest first, and what they tell.
use Rattle.std.specs.Prelude.{◌≡◌, ℕ, true, cond, List, [], ◌∷◌, Some, None, Ok, Err, Option, ◌==◌}
use Rattle.planner.specs.declared.calls.Call.{Call}
use Rattle.planner.specs.declared.calls.Call.TheVariants.{Enrol, Admit, Withdraw, Replan, Start, Rest, Fit}
use Rattle.planner.specs.declared.flows.Flow.{Flow}
use Rattle.planner.specs.Shown.{Shown, Opened}
use Rattle.planner.specs.Steps.{Answer, Step, allowed}

-- a call that was made, with its answer
pub record Event : Type 0 where
  pub call : Call
  pub answer : Answer

abbrev pub History : Type 0
History = List Event

-- a plan that was opened empty came by these calls, each in a state that allows it, to what it shows
abbrev pub Came : History → Shown → Type 0
Came [] s = Opened s
Came (e ∷ h) t = (s : Shown) × Came h s × (allowed s.running e.call ≡ true) × Step s e.call e.answer t

-- what an accepted call makes of the bookings; a refused one leaves them
abbrev pub booked_by : Call → Answer → (ℕ → Option Flow) → ℕ → Option Flow
booked_by (Enrol k f) (Ok _) before n = cond (n == k) (Some f) (before n)
booked_by (Admit k f) (Ok _) before n = cond (n == k) (Some f) (before n)
booked_by (Withdraw k) (Ok _) before n = cond (n == k) None (before n)
booked_by Replan (Ok _) before n = before n
booked_by Start (Ok _) before n = before n
booked_by Rest (Ok _) before n = before n
booked_by (Fit d) (Ok _) before n = before n
booked_by (Enrol k f) (Err _) before n = before n
booked_by (Admit k f) (Err _) before n = before n
booked_by (Withdraw k) (Err _) before n = before n
booked_by Replan (Err _) before n = before n
booked_by Start (Err _) before n = before n
booked_by Rest (Err _) before n = before n
booked_by (Fit d) (Err _) before n = before n

-- a flow is booked from its accepted enrolment or admission to its accepted withdrawal
abbrev pub bookings_of : History → ℕ → Option Flow
bookings_of [] n = None
bookings_of (e ∷ h) n = booked_by e.call e.answer (bookings_of h) n
