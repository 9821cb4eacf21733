-- What a plan shows.
use Rattle.std.specs.Prelude.{◌≡◌, ℕ, ◌≤◌, Bool, false, None, Option}
use Rattle.fabric.specs.Meaning.{Meaning, KeepsRoutes}
use Rattle.planner.specs.declared.flows.Flow.{Flow}
use Rattle.planner.specs.declared.plans.Plan.{Plan}
use Rattle.planner.specs.Bookings.{booking_at, booked_flow, kept_route}
use Rattle.planner.specs.Tables.{holds}

pub record Shown : Type 0 where
  -- the fabric
  pub meaning : Meaning
  pub period : ℕ
  pub running : Bool
  -- the flow booked under a number
  pub booked : ℕ → Option Flow
  -- the route that is kept for it
  pub route : ℕ → ℕ → Bool
  -- the slots that it holds
  pub holds : ℕ → ℕ → Bool

-- what a plan shows, over a fabric of that meaning, running or not
abbrev pub shows : {F S : Type 0} → (F → Meaning) → Bool → Plan F S → Shown
shows means running plan =
    record {
      meaning = means plan.fabric;
      period = plan.period.slots;
      running = running;
      booked = λ n. booked_flow (booking_at plan.bookings n);
      route = λ n. kept_route (booking_at plan.bookings n);
      holds = holds plan.table;
    }

-- a plan that was just opened: resting and empty, over a fabric that keeps its routes
pub record Opened (s : Shown) : Type 0 where
  pub keeps : KeepsRoutes s.meaning
  pub period_least : 1 ≤ s.period
  pub period_most : s.period ≤ 255
  pub resting : s.running ≡ false
  pub none_booked : (n : ℕ) → s.booked n ≡ None
  pub no_route : (n link : ℕ) → s.route n link ≡ false
  pub none_held : (n slot : ℕ) → s.holds n slot ≡ false
