use Rattle.std.proofs.Common.{rules, refl, arith, below_none, below_more}
use Rattle.std.proofs.lemmas.Grind.{common_steps}
use Rattle.fabric.specs.RouteRefusals.{HeaderRule}
use Rattle.fabric.proofs.route_checks.check_header.Goals as goal

-- the rules of the fields before are kept
pub returns-then-not-contains : goal.returns-then-not-contains
returns-then-not-contains c =
    let rule = HeaderRule c.args.bytes.now in
    let size : rule 0 = search rules in
    let before = below_more rule 1 (below_more rule 0 (below_none rule) size) c.if-bytes-ne1.false in
    (2, omega arith, before, λ terminals. grind (arith, common_steps, terminals.0, terminals.1, c.if-not-contains.ensures.cases), refl)

pub returns-then-not-contains-2 : goal.returns-then-not-contains-2
returns-then-not-contains-2 c =
    let rule = HeaderRule c.args.bytes.now in
    let size : rule 0 = search rules in
    let terminals : rule 2 = search rules in
    let before = below_more rule 2 (below_more rule 1 (below_more rule 0 (below_none rule) size) c.if-bytes-ne1.false) terminals in
    (3, omega arith, before, λ links. grind (arith, common_steps, links.0, links.1, c.if-not-contains-2.ensures.cases), refl)
