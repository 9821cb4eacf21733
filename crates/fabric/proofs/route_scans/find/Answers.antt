use borrow.Author.Tests.{tests}
use Rattle.std.proofs.Common.{rules, ◌≡◌, ℕ, ◌-◌, List, length, take, drop, ap, ◌∙◌, arith}
use Rattle.std.proofs.lemmas.Iterator.Consumers.{YieldsList-from_first}
use Rattle.std.proofs.lemmas.Iterator.Search.{find_from_yields_List}
use Rattle.std.proofs.lemmas.List.{take_all, length-drop}
use Rattle.fabric.specs.RouteReading.{routes_from, end_from, first_routes}
use Rattle.fabric.specs.RouteLists.{joins}
use Rattle.fabric.specs.RouteBytes.{end_above}
use Rattle.fabric.proofs.RouteSteps.{routes_left, end_left}
use Rattle.fabric.proofs.route_scans.find.Goals as goal

pub slice_bounds-routes-count : goal.slice_bounds-routes-count
slice_bounds-routes-count c = omega (arith, end_above c.args.bytes.now c.args.routes 7, c.requires)

pub slice_bounds-routes-start : goal.slice_bounds-routes-start
slice_bounds-routes-start c = omega (arith, end_above c.args.bytes.now c.args.routes 7, c.requires)

-- the slice that is read is what is left after the header
after_header : (bs : List ℕ) → take (length bs - 7) (drop 7 bs) ≡ drop 7 bs
after_header bs = take_all (length bs - 7) (drop 7 bs) (omega (arith, length-drop 7 bs))

pub invariant_of-routes : goal.invariant_of-routes
invariant_of-routes c =
    let bs = c.args.bytes.now in
    let same = ap (λ r. end_from r c.args.routes 0) (after_header bs) in
    record { whole = omega (arith, same, ap length (after_header bs), length-drop 7 bs, end_left bs c.args.routes 7 0, c.requires) }

pub returns : goal.returns
returns c =
    let bs = c.args.bytes.now in
    let n = c.args.routes in
    let same = ap (λ r. routes_from r n 0) (after_header bs) ∙ routes_left bs n 7 0 in
    let found = find_from_yields_List (λ r. joins r c.args.pair) c.find.new.self _ c.find.result c.find.ensures.ran (YieldsList-from_first _ _ (first_routes bs n) cc) (λ x b q k. search (rules, tests)) in
    search (rules, tests)
