-- The law of a plan: what holds after every history of calls, and of every call.
-- "Booked" is told by the history alone, and overlap by the routes of the fabric.
use Rattle.std.specs.Prelude.{◌≡◌, ℕ, ◌<◌, Bool, true, false, List, [], ◌∷◌, is_some, Some, Ok, Err, ◌==◌, ◌≢◌}
use Rattle.fabric.specs.Overlaps.{Overlap}
use Rattle.planner.specs.declared.calls.Call.{Call}
use Rattle.planner.specs.declared.calls.Call.TheVariants.{Enrol, Admit, Withdraw, Replan, Start, Rest, Fit}
use Rattle.planner.specs.declared.flows.Flow.{Flow}
use Rattle.planner.specs.declared.plan_faults.PlanFault.{PlanFault}
use Rattle.planner.specs.Bookings.{route_on, booked_load, valid_beside}
use Rattle.planner.specs.FlowSets.{bit}
use Rattle.planner.specs.Histories.{History, Came, bookings_of}
use Rattle.planner.specs.Orders.{AllOverlap, Order}
use Rattle.planner.specs.PlanFaults.{numbered}
use Rattle.planner.specs.Shown.{Shown}
use Rattle.planner.specs.Slots.{total, count, Load, Placing, Earliest, ChoiceOf}
use Rattle.planner.specs.Steps.{Answer, Step, Passes, booking_checks, allowed}

-- the routes of the booked flows on the fabric
abbrev pub routes_of : History → Shown → ℕ → ℕ → Bool
routes_of h s n = route_on s.meaning (bookings_of h n)

-- the booked flows, and the load that they are
abbrev pub booked_flows : History → ℕ → Bool
booked_flows h n = is_some (bookings_of h n)

abbrev pub load_of_history : History → Shown → Load
load_of_history h s = booked_load (bookings_of h) (routes_of h s) s.period

-- the plan carries the flow n on the links of its route in the slots that it holds
pub record Carries (h : History) (s : Shown) (n link slot : ℕ) : Type 0 where
  pub flow : Flow
  pub booked : bookings_of h n ≡ Some flow
  pub crosses : s.meaning.crossed flow.ends link ≡ true
  pub holds : s.holds n slot ≡ true

-- what holds after every history
pub record Sound (h : History) (s : Shown) : Type 0 where
  -- no two flows are carried on one link in one slot
  pub never_two : (n k link slot : ℕ) → Carries h s n link slot → Carries h s k link slot → n ≡ k
  -- a flow that holds slots is booked, and holds exactly its demand, of the period
  pub exact : (n slot : ℕ) → s.holds n slot ≡ true → (f : Flow) × (bookings_of h n ≡ Some f) × (count (s.holds n) s.period ≡ f.demand) × (slot < s.period)
  -- the plan's own bookings and routes are those of its history and its fabric
  pub booked : (n : ℕ) → s.booked n ≡ bookings_of h n
  pub routes : (n link : ℕ) → s.route n link ≡ routes_of h s n link

-- the answer is the refusal of that number, with that group
abbrev pub Refusal : Answer → ℕ → List ℕ → Type 0
Refusal a number values = (e : PlanFault) × (a ≡ Err e) × (numbered e ≡ (number, values))

-- the choice takes a slot that an overlapping flow holds
pub record Taken (h : History) (s : Shown) (f : Flow) (choice : ℕ → Bool) : Type 0 where
  pub slot : ℕ
  pub chosen : choice slot ≡ true
  pub holder : ℕ
  pub flow : Flow
  pub booked : bookings_of h holder ≡ Some flow
  pub overlap : Overlap s.meaning f.ends flow.ends
  pub holds : s.holds holder slot ≡ true

-- every choice of slots for the flow does
abbrev pub AllTaken : History → Shown → Flow → Type 0
AllTaken h s f = (choice : ℕ → Bool) → ChoiceOf f.demand s.period choice → Taken h s f choice

-- the slots that are valid for a new flow
abbrev pub valid_after : History → Shown → Flow → ℕ → Bool
valid_after h s f = valid_beside s.holds (routes_of h s) (s.meaning.crossed f.ends)

-- an admission
pub record Admits (h : History) (s : Shown) (n : ℕ) (f : Flow) (a : Answer) (t : Shown) : Type 0 where
  -- refused or not, it leaves every other flow the slots it had
  pub others : (k slot : ℕ) → (k ≢ n) → t.holds k slot ≡ s.holds k slot
  -- past the checks before, it is refused with 14 exactly when every choice of slots is taken
  pub refused : Passes (booking_checks s.meaning s.period (bookings_of h) n f) → Refusal a 14 [] → AllTaken h s f
  pub refuses : Passes (booking_checks s.meaning s.period (bookings_of h) n f) → AllTaken h s f → Refusal a 14 []
  -- accepted, it gives its flow the earliest valid slots
  pub earliest : a ≡ Ok tt → Earliest (valid_after h s f) (t.holds n) f.demand s.period

-- a re-plan
pub record Replanned (h : History) (s : Shown) (a : Answer) (t : Shown) : Type 0 where
  -- refused with 16 exactly when the booked flows have no order
  pub no_order : (group : ℕ) → Refusal a 16 (group ∷ []) → (order : List ℕ) → Order (load_of_history h s).overlap (booked_flows h) order → ⊥
  pub order_refused : ((order : List ℕ) → Order (load_of_history h s).overlap (booked_flows h) order → ⊥) → (group : ℕ) × Refusal a 16 (group ∷ [])
  -- if they have one, with 17 exactly when no placing of them exists
  pub no_placing : (group : ℕ) → Refusal a 17 (group ∷ []) → (table : ℕ → ℕ → Bool) → Placing (load_of_history h s) (booked_flows h) table → ⊥
  pub placing_refused : (order : List ℕ) → Order (load_of_history h s).overlap (booked_flows h) order →
      ((table : ℕ → ℕ → Bool) → Placing (load_of_history h s) (booked_flows h) table → ⊥) → (group : ℕ) × Refusal a 17 (group ∷ [])
  -- the flows named with 17 are booked and all overlap one another, and their demands together exceed the period
  pub named : (group : ℕ) → Refusal a 17 (group ∷ []) → (n : ℕ) → bit group n ≡ true → booked_flows h n ≡ true
  pub named_overlap : (group : ℕ) → Refusal a 17 (group ∷ []) → AllOverlap (load_of_history h s).overlap (bit group)
  pub named_exceed : (group : ℕ) → Refusal a 17 (group ∷ []) → s.period < total (load_of_history h s).demand (bit group) 64
  -- accepted, it leaves a placing
  pub placed : a ≡ Ok tt → Placing (load_of_history h s) (booked_flows h) t.holds

-- the calls that may take slots from the flow n: a re-plan, and its own withdrawal
abbrev pub may_take : Call → ℕ → Bool
may_take (Enrol k f) n = false
may_take (Admit k f) n = false
may_take (Withdraw k) n = n == k
may_take Replan n = true
may_take Start n = false
may_take Rest n = false
may_take (Fit d) n = false

-- the part of the law that speaks of one kind of call
abbrev pub OfCall : History → Shown → Call → Answer → Shown → Type 0
OfCall h s (Enrol n f) a t = Unit {0}
OfCall h s (Admit n f) a t = Admits h s n f a t
OfCall h s (Withdraw n) a t = Unit {0}
OfCall h s Replan a t = Replanned h s a t
OfCall h s Start a t = Unit {0}
OfCall h s Rest a t = Unit {0}
OfCall h s (Fit d) a t = Unit {0}

-- the whole law of a call after a history
pub record Law (h : History) (s : Shown) (c : Call) (a : Answer) (t : Shown) : Type 0 where
  -- the call is a part of the history then
  pub came : Came (record { call = c; answer = a } ∷ h) t
  pub before : Sound h s
  pub after : Sound (record { call = c; answer = a } ∷ h) t
  -- no other call takes a slot from a flow
  pub keeps : (n slot : ℕ) → may_take c n ≡ false → s.holds n slot ≡ true → t.holds n slot ≡ true
  pub of_call : OfCall h s c a t

-- after every history that leads to what the plan shows, the call keeps the law
abbrev pub Obeys : Shown → Call → Answer → Shown → Type 0
Obeys s c a t = (h : History) → Came h s → Law h s c a t

-- the law over every fabric, every period and every list of calls
abbrev pub LawStands : Type 0
LawStands =
    (h : History) (s : Shown) (c : Call) (a : Answer) (t : Shown) → Came h s → allowed s.running c ≡ true → Step s c a t → Law h s c a t
