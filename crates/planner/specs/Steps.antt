-- What each call's rule says: how a call leads from what a plan shows to what it shows then, with an answer.
use Rattle.std.specs.Prelude.{◌≡◌, ℕ, Bool, true, false, cond, not, List, [], ◌∷◌, ◌++◌, is_some, Some, None, Ok, Err, Option, Result, ◌==◌, ◌≢◌, nat_le}
use Rattle.fabric.specs.Meaning.{Meaning}
use Rattle.fabric.specs.Spurs.{spurred}
use Rattle.planner.specs.declared.calls.Call.{Call}
use Rattle.planner.specs.declared.calls.Call.TheVariants.{Enrol, Admit, Withdraw, Replan, Start, Rest, Fit}
use Rattle.planner.specs.declared.flows.Flow.{Flow}
use Rattle.planner.specs.declared.plan_faults.PlanFault.{PlanFault}
use Rattle.planner.specs.Bookings.{booked_load, valid_beside}
use Rattle.planner.specs.PlanFaults.{numbered}
use Rattle.planner.specs.Placements.{PlacedInOrder, Unplanned}
use Rattle.planner.specs.Shown.{Shown}
use Rattle.planner.specs.Slots.{count, Load, Earliest}

abbrev pub Answer : Type 0
Answer = Result (Unit {0}) PlanFault

-- Checks, in the order in which they are made: the number of the refusal, and the test that must hold.
abbrev pub Checks : Type 0
Checks = List (ℕ × Bool)

-- the number of the first check that fails
abbrev pub first_failing : Checks → Option ℕ
first_failing [] = None
first_failing (c ∷ cs) = cond c.1 (first_failing cs) (Some c.0)

abbrev pub Passes : Checks → Type 0
Passes cs = first_failing cs ≡ None

-- the fault is that of the first check that fails, and has no values
abbrev pub RefusedBy : Checks → PlanFault → Type 0
RefusedBy cs e = (number : ℕ) × (first_failing cs ≡ Some number) × (numbered e ≡ (number, []))

-- the checks of a booking, over a fabric and a period, beside what is booked
abbrev pub booking_checks : Meaning → ℕ → (ℕ → Option Flow) → ℕ → Flow → Checks
booking_checks m period booked n f =
    (4, nat_le n 63)
    ∷ (5, nat_le 1 f.demand)
    ∷ (11, not (is_some (booked n)))
    ∷ (12, m.routed f.ends)
    ∷ (13, nat_le f.demand period)
    ∷ []

-- the slots that are valid for a new flow
abbrev pub valid_slots : Shown → Flow → ℕ → Bool
valid_slots s f = valid_beside s.holds s.route (s.meaning.crossed f.ends)

abbrev pub enrol_checks : Shown → ℕ → Flow → Checks
enrol_checks s n f = booking_checks s.meaning s.period s.booked n f

-- there are as many valid slots as the flow demands
abbrev pub slot_check : Shown → Flow → ℕ × Bool
slot_check s f = (14, nat_le f.demand (count (valid_slots s f) s.period))

abbrev pub admit_checks : Shown → ℕ → Flow → Checks
admit_checks s n f = enrol_checks s n f ++ (slot_check s f ∷ [])

abbrev pub withdraw_checks : Shown → ℕ → Checks
withdraw_checks s n = (4, nat_le n 63) ∷ (15, is_some (s.booked n)) ∷ []

-- the same fabric, period and state
pub record SameFrame (s t : Shown) : Type 0 where
  pub meaning : t.meaning ≡ s.meaning
  pub period : t.period ≡ s.period
  pub running : t.running ≡ s.running

-- the flow is booked under n, with its route on the fabric, and of other flows nothing changes
pub record Books (s : Shown) (n : ℕ) (f : Flow) (t : Shown) : Type 0 where
  pub frame : SameFrame s t
  pub booked : (k : ℕ) → t.booked k ≡ cond (k == n) (Some f) (s.booked k)
  pub route : (k link : ℕ) → t.route k link ≡ cond (k == n) (s.meaning.crossed f.ends link) (s.route k link)
  pub holds : (k slot : ℕ) → (k ≢ n) → t.holds k slot ≡ s.holds k slot

-- the booking under n ends and its slots are free, and of other flows nothing changes
pub record Unbooks (s : Shown) (n : ℕ) (t : Shown) : Type 0 where
  pub frame : SameFrame s t
  pub booked : (k : ℕ) → t.booked k ≡ cond (k == n) None (s.booked k)
  pub route : (k link : ℕ) → t.route k link ≡ cond (k == n) false (s.route k link)
  pub holds : (k slot : ℕ) → t.holds k slot ≡ cond (k == n) false (s.holds k slot)

-- the booked flows, and the load that they are
abbrev pub flows_of : Shown → ℕ → Bool
flows_of s n = is_some (s.booked n)

abbrev pub load_shown : Shown → Load
load_shown s = booked_load s.booked s.route s.period

-- the same flows are placed anew
pub record Replans (s t : Shown) : Type 0 where
  pub frame : SameFrame s t
  pub booked : (k : ℕ) → t.booked k ≡ s.booked k
  pub route : (k link : ℕ) → t.route k link ≡ s.route k link
  pub placed : PlacedInOrder (load_shown s) (flows_of s) t.holds

-- the same in another state, and over another fabric
abbrev pub in_state : Bool → Shown → Shown
in_state running s =
    record { meaning = s.meaning; period = s.period; running = running; booked = s.booked; route = s.route; holds = s.holds }

abbrev pub over : Meaning → Shown → Shown
over m s =
    record { meaning = m; period = s.period; running = s.running; booked = s.booked; route = s.route; holds = s.holds }

-- A refused call leaves everything as it was. Starting, resting and fitting cannot be refused.
abbrev pub Step : Shown → Call → Answer → Shown → Type 0
Step s (Enrol n f) (Ok _) t = Passes (enrol_checks s n f) × Books s n f t × ((slot : ℕ) → t.holds n slot ≡ false)
Step s (Enrol n f) (Err e) t = RefusedBy (enrol_checks s n f) e × (t ≡ s)
Step s (Admit n f) (Ok _) t = Passes (admit_checks s n f) × Books s n f t × Earliest (valid_slots s f) (t.holds n) f.demand s.period
Step s (Admit n f) (Err e) t = RefusedBy (admit_checks s n f) e × (t ≡ s)
Step s (Withdraw n) (Ok _) t = Passes (withdraw_checks s n) × Unbooks s n t
Step s (Withdraw n) (Err e) t = RefusedBy (withdraw_checks s n) e × (t ≡ s)
Step s Replan (Ok _) t = Replans s t
Step s Replan (Err e) t = Unplanned (load_shown s) (flows_of s) e × (t ≡ s)
Step s Start (Ok _) t = t ≡ in_state true s
Step s Start (Err e) t = ⊥
Step s Rest (Ok _) t = t ≡ in_state false s
Step s Rest (Err e) t = ⊥
Step s (Fit d) (Ok _) t = t ≡ over (spurred s.meaning d) s
Step s (Fit d) (Err e) t = ⊥

-- the calls that a state allows
abbrev pub allowed : Bool → Call → Bool
allowed running (Enrol n f) = not running
allowed running (Admit n f) = running
allowed running (Withdraw n) = true
allowed running Replan = not running
allowed running Start = not running
allowed running Rest = running
allowed running (Fit d) = not running
