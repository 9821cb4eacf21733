use Rattle.std.proofs.Common.{⊎_elim, arith}
use Rattle.std.proofs.lemmas.Bool.{cases_Bool}
use Rattle.planner.specs.LinkSets.{crossing}
use Rattle.planner.proofs.Swept.{swept_all}
use Rattle.planner.proofs.link_sets.LinkSet.of_route.Goals as goal

pub insert-requires : goal.insert-requires
insert-requires g c = omega (arith, (g.met.F.Fabric.keeps c.args.fabric.now).links_most)

pub returns : goal.returns
returns g c =
    let crossed = (g.F.Fabric.meaning c.args.fabric.now).crossed c.args.pair in
    let below = (g.met.F.Fabric.keeps c.args.fabric.now).crosses_below c.args.pair in
    swept_all (crossing c.loop-link.links) crossed c.loop-link.link c.loop-link.invariant
    (λ k past. ⊎_elim (λ e. absurd (let in' = below k e in omega arith)) (λ e. e) (cases_Bool (crossed k)))
