-- The order that is chosen, or what is left where there is none.
use Rattle.std.specs.Prelude.{ℕ, Bool, List, map, take, Ok, Err, Result}
use Rattle.planner.specs.declared.flow_numbers.FlowNumber.{FlowNumber}
use Rattle.planner.specs.declared.flow_orders.FlowOrder.{FlowOrder}
use Rattle.planner.specs.declared.flow_sets.FlowSet.{FlowSet}
use Rattle.planner.specs.FlowSets.{members}
use Rattle.planner.specs.Orders.{Order, Chosen, Remains}

-- the numbers of flows
abbrev pub numbers : List FlowNumber → List ℕ
numbers flows = map (λ (f : FlowNumber). f.number) flows

-- the flows of an order, the last at the front
abbrev pub listed : FlowOrder → List ℕ
listed order = numbers (take order.count order.flows)

-- the answer to the question for an order of p
abbrev pub ComesTo : (ℕ → ℕ → Bool) → (ℕ → Bool) → Result FlowOrder FlowSet → Type 0
ComesTo ov p (Ok order) = Chosen ov p (listed order) × Order ov p (listed order)
ComesTo ov p (Err group) = Remains ov p (members group)
