use Rattle.std.proofs.Common.{arith}
use Rattle.fabric.specs.RouteKept.{kept_whole}
use Rattle.fabric.proofs.route_lists.RouteList.route.Goals as goal

pub find-requires : goal.find-requires
find-requires c = omega (arith, kept_whole c.args.self.now.bytes.now c.args.self.now.kept)
