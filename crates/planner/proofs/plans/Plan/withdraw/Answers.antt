use Rattle.std.proofs.Common.{◌≡◌, ◌≤◌, refl, arith, rules}
use Rattle.std.proofs.lemmas.Bool.Decides.{nat_tests}
use Rattle.std.proofs.lemmas.Result.{err_from_is_err_and}
use Rattle.planner.specs.declared.plan_faults.PlanFault.TheVariants.{BadNumber}
use Rattle.planner.proofs.Memory.{some_flow}
use Rattle.planner.proofs.plans.Plan.withdraw.Goals as goal

pub returns-in_err-number : goal.returns-in_err-number
returns-in_err-number g c = λ running.
    let p = err_from_is_err_and c.from_residual.result c.from_residual.ensures.1 in
    let high : 64 ≤ c.args.number = search rules in
    let is : c.in_err-number.field-0.0 ≡ BadNumber = search rules in
    rw (p.1, p.2, is) ((4, grind (arith, nat_tests, high), refl), refl)

pub returns-then-is_none : goal.returns-then-is_none
returns-then-is_none g c = λ running.
    let same : c.in_ok-number.number.number ≡ c.args.number = search rules in
    ((15, grind (arith, nat_tests, some_flow, same), refl), refl)
