use borrow.Author.Tests.{tests}
use Rattle.std.proofs.Common.{rules}
use Rattle.fabric.specs.RouteKept.{kept_lawful}
use Rattle.fabric.proofs.RouteLinks.{found_crosses}
use Rattle.fabric.proofs.route_lists.RouteListFabric.crosses.Goals as goal

pub returns : goal.returns
returns c =
    let list = c.args.self.now in
    let distinct = (kept_lawful list.bytes.now list.kept).routes_lawful.distinct in
    found_crosses _ _ _ _ c.args.link _ _ c.route.ensures distinct c.is_some_and.ensures (λ x q. search (rules, tests))
