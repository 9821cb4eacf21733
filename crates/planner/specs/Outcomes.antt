-- What a plan in either state shows, and what becomes of a call on it.
use Rattle.std.specs.Prelude.{◌≡◌, Bool, true, false, Ok}
use Rattle.fabric.specs.Meaning.{Meaning}
use Rattle.fabric.specs.Spurs.{spur_of}
use Rattle.fabric.specs.declared.modules.Module.{Module}
use Rattle.planner.specs.declared.any_plans.AnyPlan.{AnyPlan}
use Rattle.planner.specs.declared.any_plans.AnyPlan.TheVariants.{Resting, Running}
use Rattle.planner.specs.declared.any_plans.Outcome.{Outcome}
use Rattle.planner.specs.declared.any_plans.Outcome.TheVariants.{Answered, Fitted, NotAllowed}
use Rattle.planner.specs.declared.calls.Call.{Call}
use Rattle.planner.specs.declared.calls.Call.TheVariants.{Enrol, Admit, Withdraw, Replan, Start, Rest, Fit}
use Rattle.planner.specs.Laws.{Obeys}
use Rattle.planner.specs.Shown.{Shown, shows}
use Rattle.planner.specs.Steps.{Answer, Step, allowed}

abbrev pub any_shows : {F : Type 0} → (F → Meaning) → AnyPlan F → Shown
any_shows means (Resting plan) = shows means false plan
any_shows means (Running plan) = shows means true plan

-- The call was allowed and made by its rule; and after every history that leads to what the plan showed before, the law holds
-- of it, with the call as a part of the history.
pub record Made (s : Shown) (c : Call) (a : Answer) (t : Shown) : Type 0 where
  pub allows : allowed s.running c ≡ true
  pub step : Step s c a t
  pub law : Obeys s c a t

-- A call that the state does not allow changes nothing and is no part of the history.
abbrev pub Performed : {F : Type 0} → (F → Meaning) → AnyPlan F → Call → Outcome F → Type 0
Performed means plan c (Answered after a) = Made (any_shows means plan) c a (any_shows means after)
Performed means plan c (Fitted after) = (d : Module) × (c ≡ Fit d) × Made (any_shows means plan) c (Ok tt) (shows (spur_of means) false after)
Performed means plan c (NotAllowed after) = (after ≡ plan) × (allowed (any_shows means plan).running c ≡ false)

-- a fit, and nothing else, leads to another fabric
abbrev pub is_fit : Call → Bool
is_fit (Enrol n f) = false
is_fit (Admit n f) = false
is_fit (Withdraw n) = false
is_fit Replan = false
is_fit Start = false
is_fit Rest = false
is_fit (Fit d) = true

abbrev pub FitsAlone : {F : Type 0} → Call → Outcome F → Type 0
FitsAlone c (Answered after a) = is_fit c ≡ false
FitsAlone c (Fitted after) = is_fit c ≡ true
FitsAlone c (NotAllowed after) = Unit {0}
