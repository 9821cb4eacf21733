use Rattle.std.proofs.Common.{◌≡◌, ◌+◌, get_or, refl, ap, sym, ◌∙◌, arith, below_none, below_more}
use Rattle.std.proofs.lemmas.Bool.{true≢false}
use Rattle.std.proofs.lemmas.Bool.Decides.{nat_tests}
use Rattle.fabric.specs.RouteLists.{some_joins}
use Rattle.fabric.specs.RouteReading.{first_routes}
use Rattle.fabric.specs.RouteRefusals.{Kept}
use Rattle.fabric.proofs.RouteLinks.{found_joins}
use Rattle.fabric.proofs.route_checks.Reading.check_ends.Goals as goal
use Rattle.fabric.proofs.route_checks.Reading.check_ends.Goals.{then-not-two_of-via-then-not-two_of, then-not-two_of-via-else-not-two_of+then-is_some}

pub returns-then-not-two_of : goal.returns-then-not-two_of
returns-then-not-two_of c =
    let self = c.args.self.now in
    let bs = self.bytes.now in
    let routes = first_routes bs self.passed in
    let kept = Kept bs routes self.at in
    let source : kept 0 = (omega (arith, c.in_ok-byte_at.ensures.0), omega (arith, c.in_ok-byte_at.ensures.1, self.terminals_are)) in
    let e0 : c.from-source.result ≡ get_or bs self.at 0 = c.from-source.ensures ∙ c.in_ok-byte_at.ensures.1 in
    let e1 : c.from-destination.result ≡ get_or bs (self.at + 1) 0 = c.from-destination.ensures ∙ c.in_ok-byte_at-2.ensures.1 in (
      1,
      omega arith,
      below_more kept 0 (below_none kept) source,
      λ there.
          elim c.then-not-two_of.branch [
            | then-not-two_of-via-then-not-two_of w ↦ grind (arith, nat_tests, e0, e1, there.1.0, there.1.1, source.1, self.terminals_are)
            | then-not-two_of-via-else-not-two_of+then-is_some w ↦ true≢false (sym w.if-is_some.true ∙ w.is_some.ensures ∙ found_joins _ _ routes _ w.find.ensures ∙ ap (some_joins routes) (λ i. record { source = e0 i; destination = e1 i }) ∙ there.1.2)
          ],
      refl,
    )

pub returns : goal.returns
returns c =
    let self = c.args.self.now in
    let bs = self.bytes.now in
    let routes = first_routes bs self.passed in
    let kept = Kept bs routes self.at in
    let source : kept 0 = (omega (arith, c.in_ok-byte_at.ensures.0), omega (arith, c.in_ok-byte_at.ensures.1, self.terminals_are)) in
    let e0 : c.from-source.result ≡ get_or bs self.at 0 = c.from-source.ensures ∙ c.in_ok-byte_at.ensures.1 in
    let e1 : c.from-destination.result ≡ get_or bs (self.at + 1) 0 = c.from-destination.ensures ∙ c.in_ok-byte_at-2.ensures.1 in
    below_more kept 1 (below_more kept 0 (below_none kept) source) (
      omega (arith, c.in_ok-byte_at-2.ensures.0),
      (
        grind (arith, nat_tests, e1, self.terminals_are),
        grind (arith, nat_tests, e0, e1),
        ap (some_joins routes) (λ i. record { source = sym e0 i; destination = sym e1 i }) ∙ sym (found_joins _ _ routes _ c.find.ensures) ∙ sym c.is_some.ensures ∙ c.if-is_some.false,
      ),
    )
