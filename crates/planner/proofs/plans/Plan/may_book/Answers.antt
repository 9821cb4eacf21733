use Rattle.std.proofs.Common.{◌≡◌, ◌≤◌, refl, arith, rules}
use Rattle.std.proofs.lemmas.Bool.Decides.{nat_tests}
use Rattle.std.proofs.lemmas.Result.{err_from_is_err_and}
use Rattle.planner.specs.declared.plan_faults.PlanFault.TheVariants.{BadNumber}
use Rattle.planner.proofs.Memory.{some_flow}
use Rattle.planner.proofs.plans.Plan.may_book.Goals as goal

pub returns-in_err-number : goal.returns-in_err-number
returns-in_err-number g c =
    let p = err_from_is_err_and c.from_residual.result c.from_residual.ensures.1 in
    let high : 64 ≤ c.args.number = search rules in
    let is : c.in_err-number.field-0.0 ≡ BadNumber = search rules in
    rw (p.1, p.2, is) (4, grind (arith, nat_tests, high), refl)

pub returns-then-flow-eq0 : goal.returns-then-flow-eq0
returns-then-flow-eq0 g c =
    let same : c.in_ok-number.number.number ≡ c.args.number = search rules in
    (5, grind (arith, nat_tests, same), refl)

pub returns-then-is_some : goal.returns-then-is_some
returns-then-is_some g c =
    let same : c.in_ok-number.number.number ≡ c.args.number = search rules in
    (11, grind (arith, nat_tests, some_flow, same), refl)

pub returns-then-not-routed : goal.returns-then-not-routed
returns-then-not-routed g c =
    let same : c.in_ok-number.number.number ≡ c.args.number = search rules in
    (12, grind (arith, nat_tests, some_flow, same), refl)

pub returns-then-flow-from : goal.returns-then-flow-from
returns-then-flow-from g c =
    let same : c.in_ok-number.number.number ≡ c.args.number = search rules in
    (13, grind (arith, nat_tests, some_flow, same), refl)
