-- A spur: the terminals of a module, joined to a fabric at one of its terminals, the port.
use Rattle.std.specs.Prelude.{◌≡◌, ℕ, ◌+◌, ◌<◌, ◌≤◌, Bool, true, false, cond, ◌&&◌, ◌||◌, ◌⊎◌, [], Decides, Result, MatchResult, ◌==◌, nat_le, nat_lt}
use Rattle.fabric.specs.declared.Size.{Size}
use Rattle.fabric.specs.declared.faults.FabricFault.{FabricFault}
use Rattle.fabric.specs.declared.modules.Hop.{Hop}
use Rattle.fabric.specs.declared.modules.Hop.TheVariants.{Below, Out, In}
use Rattle.fabric.specs.declared.modules.Module.{Module}
use Rattle.fabric.specs.declared.pairs.Pair.{Pair}
use Rattle.fabric.specs.declared.spurs.Spur.{Spur}
use Rattle.fabric.specs.Faults.{numbered}
use Rattle.fabric.specs.Meaning.{Meaning}

-- how many terminals a module may have
abbrev pub ModuleSize : ℕ → Type 0
ModuleSize n = (1 ≤ n) × (n ≤ 8)

-- The module fits a fabric of that size: its port is there, and there is room for its terminals and two more links.
pub record Fits (s : Size) (d : Module) : Type 0 where
  pub port_below : d.port < s.terminals
  pub terminals_most : s.terminals + d.count ≤ 128
  pub links_most : s.links + 2 ≤ 256

-- The answer to whether the module may be joined. One outside its limits is refused with 2, even if it does not fit either.
abbrev pub Judged : Size → Module → Result Unit FabricFault → Type 0
Judged s d r =
    MatchResult r
    (λ _. ModuleSize d.count × Fits s d)
    (λ fault.
    ((ModuleSize d.count → ⊥) × (numbered fault ≡ (2, [])))
    ⊎ (ModuleSize d.count × (Fits s d → ⊥) × (numbered fault ≡ (18, []))))

-- that it may be joined, as a test
abbrev pub joinable : Size → Module → Bool
joinable s d =
    (nat_le 1 d.count && nat_le d.count 8)
    && (nat_lt d.port s.terminals && (nat_le (s.terminals + d.count) 128 && nat_le (s.links + 2) 256))

abbrev pub size_of : Meaning → Size
size_of m = record { terminals = m.terminals; links = m.links }

-- the size of the fabric with the module; as it was if the module may not be joined
abbrev pub joined_size : Size → Module → Size
joined_size s d =
    cond (joinable s d) (record { terminals = s.terminals + d.count; links = s.links + 2 }) s

-- the module's terminals are numbered on from those of the fabric
abbrev pub in_module : Size → Module → ℕ → Bool
in_module s d a = nat_le s.terminals a && nat_lt a (s.terminals + d.count)

-- and they are there only if the module may be joined
abbrev pub added : Size → Module → ℕ → Bool
added s d a = joinable s d && in_module s d a

-- what is left of a pair for the fabric below: it starts at the port if its source is in the module ..
abbrev pub from_port : Module → Pair → Pair
from_port d p = record { source = d.port; destination = p.destination }

-- .. and ends at the port if its destination is
abbrev pub to_port : Module → Pair → Pair
to_port d p = record { source = p.source; destination = d.port }

-- How a pair goes: out of the module if its source is one that the module adds, else into it if its destination is,
-- else below alone.
abbrev pub HopIs : Size → Module → Pair → Hop → Type 0
HopIs s d p Below = (added s d p.source ≡ false) × (added s d p.destination ≡ false)
HopIs s d p (Out rest) = (added s d p.source ≡ true) × (rest ≡ from_port d p)
HopIs s d p (In rest) =
    (added s d p.source ≡ false) × (added s d p.destination ≡ true) × (rest ≡ to_port d p)

-- both ends are one terminal, or the pair has a route
abbrev pub reaches : Meaning → Pair → Bool
reaches m p = p.source == p.destination || m.routed p

-- the new link and the pair's route; the new link alone if both ends are one terminal; nothing if there is no route
abbrev pub crossed_with : Meaning → ℕ → Pair → ℕ → Bool
crossed_with m new p k = reaches m p && (k == new || m.crossed p k)

-- a pair with an end in the module has a route if its other end is the port, or has a route below from or to the port
abbrev pub spur_routed : Meaning → Module → Pair → Bool
spur_routed m d p =
    cond (in_module (size_of m) d p.source) (reaches m (from_port d p))
    (cond (in_module (size_of m) d p.destination) (reaches m (to_port d p))
    (m.routed p))

-- of the two new links the first leads out of the module, the second into it
abbrev pub spur_crossed : Meaning → Module → Pair → ℕ → Bool
spur_crossed m d p k =
    cond (in_module (size_of m) d p.source) (crossed_with m m.links (from_port d p) k)
    (cond (in_module (size_of m) d p.destination) (crossed_with m (m.links + 1) (to_port d p) k)
    (m.crossed p k))

-- the fabric with a module that may be joined
abbrev pub spur_meaning : Meaning → Module → Meaning
spur_meaning m d =
    record { terminals = m.terminals + d.count; links = m.links + 2; routed = spur_routed m d; crossed = spur_crossed m d }

-- the fabric with any module: one that may not be joined adds nothing
abbrev pub spurred : Meaning → Module → Meaning
spurred m d = cond (joinable (size_of m) d) (spur_meaning m d) m

-- what a spur means, by what the fabric below means
abbrev pub spur_of : {F : Type 0} → (F → Meaning) → Spur F → Meaning
spur_of meaning s = spurred (meaning s.below) s.«module»

-- What holds of every fabric with any module.
pub record SpurLaws (m : Meaning) (d : Module) : Type 0 where
  -- the test stands for the facts
  pub decides : Decides (joinable (size_of m) d) (ModuleSize d.count × Fits (size_of m) d)
  -- between the terminals below all routes stay as they were
  pub stays_routed : (p : Pair) → p.source < m.terminals → p.destination < m.terminals → (spurred m d).routed p ≡ m.routed p
  pub stays_crossed : (p : Pair) → p.source < m.terminals → p.destination < m.terminals → (k : ℕ) → (spurred m d).crossed p k ≡ m.crossed p k
  -- the module's terminals have no routes among themselves
  pub none_among : (p : Pair) → m.terminals ≤ p.source → m.terminals ≤ p.destination → (spurred m d).routed p ≡ false
