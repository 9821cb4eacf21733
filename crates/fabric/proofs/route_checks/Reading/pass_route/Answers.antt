use Rattle.std.proofs.Common.{◌≡◌, suc, ◌+◌, ◌≤◌, [], ◌∷◌, get_or, refl, ap, ◌∙◌, arith}
use Rattle.fabric.specs.RouteReading.{first_routes}
use Rattle.fabric.proofs.RouteLinksKept.{kept_most, kept_all, kept_stops}
use Rattle.fabric.proofs.RouteSteps.{first_end_more}
use Rattle.fabric.proofs.route_checks.Reading.pass_route.Goals as goal

pub returns-then-kept-count : goal.returns-then-kept-count
returns-then-kept-count c =
    let self = c.args.self.now in
    let bs = self.bytes.now in
    let routes = first_routes bs self.passed in
    let size : c.from-count.result ≡ get_or bs (self.at + 2) 0 = c.from-count.ensures ∙ c.in_ok-byte_at.ensures.1 in
    let some : 1 ≤ c.from-count.result = omega arith in (
      suc (suc (suc c.links_kept-kept.result)),
      omega (arith, size),
      λ j h. kept_all bs routes self.at _ _ _ c.in_ok-byte_at.ensures.0 size some self.links_are c.links_kept-kept.ensures c.in_ok-check_ends.ensures j (omega arith),
      kept_stops bs routes self.at _ _ _ c.in_ok-byte_at.ensures.0 size some self.links_are c.links_kept-kept.ensures c.if-kept-count.true,
      ap (λ place. (3, place ∷ [])) (omega arith),
    )

pub invariant_of-result : goal.invariant_of-result
invariant_of-result c =
    let self = c.args.self.now in
    let bs = self.bytes.now in
    let size : c.from-count.result ≡ get_or bs (self.at + 2) 0 = c.from-count.ensures ∙ c.in_ok-byte_at.ensures.1 in
    let some : 1 ≤ c.from-count.result = omega arith in
    let most = kept_most bs (first_routes bs self.passed) self.at _ _ _ c.in_ok-byte_at.ensures.0 size some self.links_are c.links_kept-kept.ensures in
    record {
      terminals_are = self.terminals_are;
      links_are = self.links_are;
      at_end = omega (arith, size, first_end_more bs self.passed self.at self.at_end);
      within = omega (arith, most, c.if-kept-count.false);
    }

pub returns : goal.returns
returns c =
    let self = c.args.self.now in
    let bs = self.bytes.now in
    let size : c.from-count.result ≡ get_or bs (self.at + 2) 0 = c.from-count.ensures ∙ c.in_ok-byte_at.ensures.1 in
    let some : 1 ≤ c.from-count.result = omega arith in (
      refl,
      refl,
      refl,
      λ k h. kept_all bs (first_routes bs self.passed) self.at _ _ _ c.in_ok-byte_at.ensures.0 size some self.links_are c.links_kept-kept.ensures c.in_ok-check_ends.ensures k (omega (arith, size, c.if-kept-count.false)),
    )
