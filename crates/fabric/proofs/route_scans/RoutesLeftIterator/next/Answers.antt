use Rattle.std.proofs.Common.{◌≡◌, refl, ap, length, take, drop, arith}
use Rattle.std.proofs.lemmas.Grind.{common_steps}
use Rattle.fabric.specs.RouteReading.{routes_from, end_from}
use Rattle.fabric.proofs.RouteSteps.{split_left}
use Rattle.fabric.proofs.route_scans.RoutesLeftIterator.next.Goals as goal

pub returns-in_err-left-clause-steps : goal.returns-in_err-left-clause-steps
unfolding routes_from
returns-in_err-left-clause-steps c =
    let none : c.args.self.now.left ≡ 0 = omega (arith, c.in_err-left.ensures) in
    rw (c.from_residual.ensures, none) (refl, refl)

pub split_at-requires : goal.split_at-requires
split_at-requires c =
    let bs = c.args.self.now.rest.now in
    let split = split_left bs (take 3 bs) (drop 3 bs) _ _ _ c.in_ok-left.ensures.0 c.in_ok-left.ensures.1 refl refl refl in
    omega (arith, split.1, c.args.self.now.whole)

pub split_at-requires-2 : goal.split_at-requires-2
split_at-requires-2 c =
    let split = split_left _ _ _ _ _ _ c.in_ok-left.ensures.0 c.in_ok-left.ensures.1 c.split_at.ensures.front c.split_at.ensures.back c.from.ensures in
    omega (arith, split.1, c.args.self.now.whole, c.split_at.ensures.back_len)

pub invariant_of-self : goal.invariant_of-self
invariant_of-self c =
    let split = split_left _ _ _ _ _ _ c.in_ok-left.ensures.0 c.in_ok-left.ensures.1 c.split_at.ensures.front c.split_at.ensures.back c.from.ensures in
    let rest = ap (λ r. end_from r c.in_ok-left.left 0) c.split_at-2.ensures.back in
    record { whole = omega (arith, split.1, rest, c.args.self.now.whole, c.split_at.ensures.back_len, c.split_at-2.ensures.back_len) }

pub returns-clause-steps : goal.returns-clause-steps
returns-clause-steps c =
    let split = split_left _ _ _ _ _ _ c.in_ok-left.ensures.0 c.in_ok-left.ensures.1 c.split_at.ensures.front c.split_at.ensures.back c.from.ensures in
    let links = c.split_at-2.ensures.front in
    let rest = c.split_at-2.ensures.back in
    cc

pub returns-clause-goes : goal.returns-clause-goes
returns-clause-goes c = grind (arith, common_steps, ap length (returns-clause-steps c))
