use Rattle.std.proofs.Common.{◌≡◌, ◌≤◌, length}
use Rattle.fabric.specs.RouteLists.{LawfulRoutes}
use Rattle.fabric.specs.RouteReading.{first_routes, first_end}
use Rattle.fabric.specs.RouteRefusals.{stated_terminals, stated_links}
use Rattle.fabric.proofs.route_checks.check.Given as goal

-- so many routes are passed, and they are lawful
abbrev pub invariant-loop : goal.invariant-loop
invariant-loop l = record {
  same_bytes : l.reading.0.now ≡ l.bytes;
  same_summary : l.reading.1.0 ≡ l.summary;
  passed_is : l.reading.1.1.0 ≡ l.counter;
  at_end : l.reading.1.1.1.0 ≡ first_end l.bytes l.counter;
  within : l.reading.1.1.1.0 ≤ length l.bytes;
  lawful : LawfulRoutes (stated_terminals l.bytes) (stated_links l.bytes) (first_routes l.bytes l.counter);
}
