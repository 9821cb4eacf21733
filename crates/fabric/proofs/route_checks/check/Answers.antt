use Rattle.std.proofs.Common.{◌≡◌, ◌+◌, refl, sym, ap, ◌∙◌, arith}
use Rattle.std.proofs.lemmas.Result.{err_from_is_err_and}
use Rattle.fabric.specs.declared.faults.FabricFault.TheVariants.{BadList}
use Rattle.fabric.specs.RouteRefusals.{stated_terminals, stated_links, stated_routes}
use Rattle.fabric.proofs.RouteRefused.{settled}
use Rattle.fabric.proofs.RouteSteps.{none_at}
use Rattle.fabric.proofs.RouteAnswers.{none_lawful, more_lawful, reached_first, refused, header_refused, route_refused, left_refused, accepted}
use Rattle.fabric.proofs.route_checks.check.Goals as goal

pub returns-in_err-summary : goal.returns-in_err-summary
returns-in_err-summary c =
    let bs = c.args.bytes.now in
    let p = err_from_is_err_and c.from_residual.result c.from_residual.ensures.1 in
    record {
      answer = rw (p.1, p.2) (refused bs _ (header_refused bs _ c.in_err-summary.ensures));
      settled = settled bs;
    }

pub loop-init : goal.loop-init
loop-init c =
    let bs = c.args.bytes.now in
    record {
      same_bytes = refl;
      same_summary = refl;
      passed_is = refl;
      at_end = none_at bs;
      within = (c.in_ok-summary.ensures.rules 0 (omega arith)).0;
      lawful = none_lawful _ _ bs;
    }

pub invariant_of-reading : goal.invariant_of-reading
invariant_of-reading c =
    let read = c.in_ok-summary.ensures in
    let i = c.loop.invariant in
    record {
      terminals_are = ap (λ s. s.terminals) i.same_summary ∙ read.terminals_are ∙ ap stated_terminals (sym i.same_bytes);
      links_are = ap (λ s. s.links) i.same_summary ∙ read.links_are ∙ ap stated_links (sym i.same_bytes);
      at_end = rw (i.same_bytes, i.passed_is) i.at_end;
      within = rw i.same_bytes i.within;
    }

pub returns-in_err-reading : goal.returns-in_err-reading
returns-in_err-reading c =
    let bs = c.args.bytes.now in
    let read = c.in_ok-summary.ensures in
    let i = c.loop.invariant in
    let n = c.loop.counter in
    let reached = reached_first bs n _ read.rules i.at_end i.within i.lawful in
    let p = err_from_is_err_and c.from_residual-in_err-reading.result c.from_residual-in_err-reading.ensures.1 in
    let broken = rw (i.same_bytes, i.passed_is) at c.in_err-reading.ensures in
    record {
      answer = rw (p.1, p.2) (refused bs _ (route_refused bs n _ _ reached (omega (arith, read.routes_are)) broken));
      settled = settled bs;
    }

pub loop-preserved : goal.loop-preserved
loop-preserved c =
    let bs = c.args.bytes.now in
    let i = c.loop.invariant in
    let next = c.in_ok-reading.reading in
    let made = c.in_ok-reading.ensures in
    let same : next.bytes.now ≡ bs = ap (λ b. b.now) made.0 ∙ i.same_bytes in
    let passed : next.passed ≡ c.loop.counter + 1 = omega (arith, made.2, i.passed_is) in
    record {
      same_bytes = same;
      same_summary = made.1 ∙ i.same_summary;
      passed_is = passed;
      at_end = rw (same, passed) at next.at_end;
      within = rw same at next.within;
      lawful = more_lawful bs c.loop.counter _ i.at_end i.lawful (rw (i.same_bytes, i.passed_is) at made.3);
    }

pub returns-then-reading-bytes : goal.returns-then-reading-bytes
returns-then-reading-bytes c =
    let bs = c.args.bytes.now in
    let read = c.in_ok-summary.ensures in
    let i = c.loop.invariant in
    let n = c.loop.counter in
    let at = c.loop.reading.1.1.1.0 in
    let reached = reached_first bs n at read.rules i.at_end i.within i.lawful in
    let all : n ≡ stated_routes bs = omega (arith, read.routes_are) in
    record {
      answer = refused bs (BadList at) (at, refl, left_refused bs n at reached all c.if-reading-bytes.true);
      settled = settled bs;
    }

pub returns : goal.returns
returns c =
    let bs = c.args.bytes.now in
    let read = c.in_ok-summary.ensures in
    let i = c.loop.invariant in
    let n = c.loop.counter in
    let at = c.loop.reading.1.1.1.0 in
    let reached = reached_first bs n at read.rules i.at_end i.within i.lawful in
    let all : n ≡ stated_routes bs = omega (arith, read.routes_are) in
    record {
      answer = accepted bs _ _ _ n at read (omega (arith, c.type_inv.bytes 1)) (omega (arith, c.type_inv.bytes 5)) reached i.at_end all c.if-reading-bytes.false;
      settled = settled bs;
    }
