-- A tree of terminals. Terminal 0 is the root, and every other terminal has a parent numbered below it.
-- A tree is described by the parents of terminals 1, 2 and so on.
use Rattle.std.specs.Prelude.{◌≡◌, ℕ, zero, suc, ◌+◌, ◌-◌, ◌*◌, ◌/◌, ◌%◌, ◌<◌, ◌≤◌, Bool, false, cond, not, ◌&&◌, ◌||◌, ◌⊎◌, List, ◌∷◌, length, ◌==◌, ◌≢◌, slice_index}
use Rattle.fabric.specs.declared.pairs.Pair.{Pair}
use Rattle.fabric.specs.Meaning.{Meaning}
use Rattle.fabric.specs.Pairs.{two_of}

-- how many terminals there are
abbrev pub tree_size : List ℕ → ℕ
tree_size ps = length ps + 1

-- a terminal's parent; the root's is taken to be the root
abbrev pub parent_of : List ℕ → ℕ → ℕ
parent_of ps v = slice_index (0 ∷ ps) v

-- which descriptions are accepted: 2 to 128 terminals, and each parent is numbered below its child
abbrev pub TreeLawful : List ℕ → Type 0
TreeLawful ps =
    (2 ≤ tree_size ps) × (tree_size ps ≤ 128) × ((v : ℕ) → 1 ≤ v → v < tree_size ps → parent_of ps v < v)

-- the terminal that is i steps up from v
abbrev pub ancestor : List ℕ → ℕ → ℕ → ℕ
ancestor ps zero v = v
ancestor ps (suc i) v = ancestor ps i (parent_of ps v)

-- u is in the lineage of v: v, its parent, and so on to the root
abbrev pub Lineage : List ℕ → ℕ → ℕ → Type 0
Lineage ps v u = (i : ℕ) × (ancestor ps i v ≡ u)

-- every two different terminals have a route
abbrev pub TreeRoutes : List ℕ → Pair → Type 0
TreeRoutes ps p =
    (p.source < tree_size ps) × (p.destination < tree_size ps) × (p.source ≢ p.destination)

-- v is in the lineage of a and not of b: the way from a to b leaves v for its parent
abbrev pub Leaves : List ℕ → ℕ → ℕ → ℕ → Type 0
Leaves ps a b v = Lineage ps a v × (Lineage ps b v → ⊥)

-- For each terminal v but the root, link 2v - 2 goes up from v and link 2v - 1 goes down to v. A route crosses the
-- first where it leaves v for its parent, and the second where the way back does.
abbrev pub TreeCrosses : List ℕ → Pair → ℕ → Type 0
TreeCrosses ps p k =
    TreeRoutes ps p ×
    ((v : ℕ) ×
    (1 ≤ v) ×
    (v < tree_size ps) ×
    (((k ≡ 2 * v - 2) × Leaves ps p.source p.destination v) ⊎
    ((k ≡ 2 * v - 1) × Leaves ps p.destination p.source v)))

-- The same as tests. A step up leads down in number, so u is met within v steps or not at all.
unfoldable pub met_below : List ℕ → ℕ → ℕ → ℕ → Bool
met_below ps v u zero = false
met_below ps v u (suc i) = ancestor ps i v == u || met_below ps v u i

abbrev pub in_lineage : List ℕ → ℕ → ℕ → Bool
in_lineage ps v u = met_below ps v u (v + 1)

abbrev pub leaves : List ℕ → ℕ → ℕ → ℕ → Bool
leaves ps a b v = in_lineage ps a v && not (in_lineage ps b v)

abbrev pub tree_crossed : List ℕ → Pair → ℕ → Bool
tree_crossed ps p k =
    two_of (tree_size ps) p &&
    cond (k % 2 == 0)
    (leaves ps p.source p.destination (k / 2 + 1))
    (leaves ps p.destination p.source (k / 2 + 1))

abbrev pub tree_meaning : List ℕ → Meaning
tree_meaning ps =
    record { terminals = tree_size ps; links = 2 * tree_size ps - 2; routed = two_of (tree_size ps); crossed = tree_crossed ps }
