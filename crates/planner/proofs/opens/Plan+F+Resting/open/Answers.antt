use Rattle.std.proofs.Common.{refl, ap, rules}
use Rattle.planner.specs.Bookings.{booked_flow, kept_route}
use Rattle.planner.proofs.opens.Plan+F+Resting.open.Goals as goal

pub returns : goal.returns
returns g c = (
  record {
    keeps = g.met.F.Fabric.keeps c.args.fabric;
    period_least = search (rules, c.args.length.some);
    period_most = search rules;
    resting = refl;
    none_booked = λ n. ap booked_flow (c.none.ensures n);
    no_route = λ n link. ap (λ o. kept_route o link) (c.none.ensures n);
    none_held = c.empty.ensures;
  },
  (refl, search rules),
)
