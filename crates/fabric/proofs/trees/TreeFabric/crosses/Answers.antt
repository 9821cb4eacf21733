use Rattle.std.proofs.Common.{◌≡◌, arith}
use Rattle.std.proofs.lemmas.Bool.Decides.{Decides-at, nat_tests}
use Rattle.fabric.specs.Trees.{tree_crossed}
use Rattle.fabric.specs.TreeLaws.{crosses_decides, leaves_same}
use Rattle.fabric.proofs.trees.TreeFabric.crosses.Goals as goal

pub returns-then-link-eq0 : goal.returns-then-link-eq0
returns-then-link-eq0 c =
    let lawful = c.args.self.now.lawful in
    let routed = c.if-not-routed.ensures.meant in
    let left = leaves_same _ lawful _ _ _ _ c.leaves.ensures in
    let meant : c.leaves.result ≡ tree_crossed c.args.self.now.parents.items c.args.pair c.args.link = grind (arith, nat_tests) in
    record { meant = meant; decides = Decides-at _ _ meant (crosses_decides _ lawful _ _) }

pub returns-else-link-eq0 : goal.returns-else-link-eq0
returns-else-link-eq0 c =
    let lawful = c.args.self.now.lawful in
    let routed = c.if-not-routed.ensures.meant in
    let left = leaves_same _ lawful _ _ _ _ c.leaves-else-link-eq0.ensures in
    let meant : c.leaves-else-link-eq0.result ≡ tree_crossed c.args.self.now.parents.items c.args.pair c.args.link = grind (arith, nat_tests) in
    record { meant = meant; decides = Decides-at _ _ meant (crosses_decides _ lawful _ _) }
