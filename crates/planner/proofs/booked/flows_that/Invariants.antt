use Rattle.std.proofs.Common.{◌≡◌, ℕ, ◌<◌, ◌≤◌, false}
use Rattle.planner.specs.FlowSets.{members}
use Rattle.planner.specs.declared.flow_numbers.FlowNumber.{FlowNumber}
use Rattle.planner.proofs.booked.flows_that.Given as goal

abbrev pub invariant-loop-number : goal.invariant-loop-number
invariant-loop-number g l =
    record {
      passed : (n : ℕ) → n < l.number → (flow : FlowNumber) × (flow.number ≡ n) × goal.T-post g l.test flow (members l.flows n);
      others : (n : ℕ) → l.number ≤ n → members l.flows n ≡ false;
    }
