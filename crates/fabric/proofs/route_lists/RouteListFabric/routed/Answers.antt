use Rattle.std.proofs.Common.{◌∙◌}
use Rattle.fabric.specs.RouteReading.{decoded}
use Rattle.fabric.proofs.RouteLinks.{found_joins}
use Rattle.fabric.proofs.route_lists.RouteListFabric.routed.Goals as goal

pub returns : goal.returns
returns c = c.is_some.ensures ∙ found_joins _ _ (decoded c.args.self.now.bytes.now).routes c.args.pair c.route.ensures
