-- The refusals of a script's lines, each with its number, its values and its layer.
use Rattle.std.specs.Prelude.{ℕ, cond, ◌||◌, List, [], Some, None, codes, Option, ◌==◌}
use Rattle.fabric.specs.Faults as of_fabrics
use Rattle.labels.specs.Faults as of_labels
use Rattle.planner.specs.PlanFaults as of_plans
use Rattle.planner.specs.declared.flow_sets.FlowSet.{FlowSet}
use Rattle.planner.specs.declared.plan_faults.PlanFault.{PlanFault}
use Rattle.planner.specs.declared.plan_faults.PlanFault.TheVariants.{BadPeriod, BadNumber, NoDemand, NumberTaken, NoRoute, DemandAbovePeriod, TooFewSlots, NotBooked, NoOrder, NoPlacing}
use Rattle.session.specs.declared.faults.Layer.{Layer}
use Rattle.session.specs.declared.faults.Layer.TheVariants.{Fabric as OfFabric, Label as OfLabel, Script as OfScript, Plan as OfPlan}
use Rattle.session.specs.declared.faults.ScriptFault.{ScriptFault}
use Rattle.session.specs.declared.faults.ScriptFault.TheVariants.{NoForm, WrongState, Fabric, Label, Plan}
use Rattle.session.specs.declared.printers.RunFault.{RunFault}
use Rattle.session.specs.declared.printers.RunFault.TheVariants.{NoMemory, Unprinted}

-- each refusal by its number and values; one of a lower layer has those that it has there
abbrev pub numbered : ScriptFault → ℕ × List ℕ
numbered NoForm = (6, [])
numbered WrongState = (19, [])
numbered (Fabric fault) = of_fabrics.numbered fault
numbered (Label fault) = of_labels.numbered fault
numbered (Plan fault) = of_plans.numbered fault

-- only 16 and 17 name a group of flows
abbrev pub plan_group : PlanFault → Option FlowSet
plan_group BadPeriod = None
plan_group BadNumber = None
plan_group NoDemand = None
plan_group NumberTaken = None
plan_group NoRoute = None
plan_group DemandAbovePeriod = None
plan_group TooFewSlots = None
plan_group NotBooked = None
plan_group (NoOrder group) = Some group
plan_group (NoPlacing group) = Some group

abbrev pub group_of : ScriptFault → Option FlowSet
group_of NoForm = None
group_of WrongState = None
group_of (Fabric fault) = None
group_of (Label fault) = None
group_of (Plan fault) = plan_group fault

-- the layer goes by the number: `fabric` for 2 and 3, `label` for 7, 20 and 21, `script` for 6 and 19, else `plan`
abbrev pub layer_of : ℕ → Layer
layer_of n =
    cond (n == 2 || n == 3) OfFabric
    (cond (n == 7 || (n == 20 || n == 21)) OfLabel (cond (n == 6 || n == 19) OfScript OfPlan))

abbrev pub layer_word : Layer → List ℕ
layer_word OfFabric = codes "fabric"
layer_word OfLabel = codes "label"
layer_word OfScript = codes "script"
layer_word OfPlan = codes "plan"

-- why a run broke off
abbrev pub fault_text : RunFault → List ℕ
fault_text NoMemory = codes "there is no memory for a line"
fault_text Unprinted = codes "a line cannot be printed"
