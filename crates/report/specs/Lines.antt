-- The lines of a report.
use Rattle.std.specs.Prelude.{◌≡◌, ℕ, true, false, ◌⊎◌, List, ◌++◌, codes, decimal}
use Rattle.fabric.specs.declared.pairs.Pair.{Pair}
use Rattle.fabric.specs.declared.route_checks.ListSummary.{ListSummary}
use Rattle.fabric.specs.Meaning.{Meaning}
use Rattle.fabric.specs.Overlaps.{Shared}
use Rattle.report.specs.Links.{Ascending}
use Rattle.report.specs.Spelled.{commas}

-- a pair before the rest of its line, as `0->3`
abbrev pub pair_then : Pair → List ℕ → List ℕ
pair_then p rest = decimal p.source ++ (codes "->" ++ (decimal p.destination ++ rest))

-- the line of a pair: the links of its route, or that it has none
abbrev pub RouteLine : Meaning → Pair → List ℕ → Type 0
RouteLine m p line =
    ((m.routed p ≡ false) × (line ≡ pair_then p (codes " has no route")))
    ⊎ ((m.routed p ≡ true) × ((ks : List ℕ) × Ascending (λ k. m.crossed p k ≡ true) ks × (line ≡ pair_then p (codes " crosses " ++ commas ks))))

-- the line of two pairs that overlap: the links that both routes cross
abbrev pub OverlapLine : Meaning → Pair → Pair → List ℕ → Type 0
OverlapLine m one other line =
    (ks : List ℕ) × Ascending (Shared m one other) ks × (line ≡ pair_then one (codes " and " ++ pair_then other (codes " share " ++ commas ks)))

-- the line of an accepted route list: how many terminals, links and routes
abbrev pub list_line : ListSummary → List ℕ
list_line list =
    codes "ok " ++ (decimal list.terminals ++ (codes " " ++ (decimal list.links ++ (codes " " ++ decimal list.routes))))
