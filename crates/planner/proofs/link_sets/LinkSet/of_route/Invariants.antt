use Rattle.std.proofs.Common.{◌≡◌, ℕ, ◌&&◌, ltb}
use Rattle.planner.specs.LinkSets.{crossing}
use Rattle.planner.proofs.link_sets.LinkSet.of_route.Given as goal

-- the set has the links of the route so far
abbrev pub invariant-loop-link : goal.invariant-loop-link
invariant-loop-link g l =
    (k : ℕ) → crossing l.links k ≡ (ltb k l.link && (g.F.Fabric.meaning l.fabric).crossed l.pair k)
