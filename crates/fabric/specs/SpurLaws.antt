-- A spur keeps its routes, over any fabric that does.
use Rattle.std.specs.Prelude.{◌≡◌, ℕ, ◌+◌, Bool, true, false, cond, Decides, refl}
use Rattle.std.proofs.Common.{arith}
use Rattle.std.proofs.lemmas.Bool.Decides.{nat_tests}
use Rattle.fabric.specs.declared.Size.{Size}
use Rattle.fabric.specs.declared.modules.Module.{Module}
use Rattle.fabric.specs.declared.pairs.Pair.{Pair}
use Rattle.fabric.specs.Meaning.{Meaning, KeepsRoutes}
use Rattle.fabric.specs.Spurs.{ModuleSize, Fits, joinable, size_of, in_module, from_port, to_port, spur_meaning, spurred, SpurLaws}

-- the test is that of the facts
pub joinable_decides : (s : Size) (d : Module) → Decides (joinable s d) (ModuleSize d.count × Fits s d)
joinable_decides s d = (
  λ e. (
    (grind (arith, nat_tests), grind (arith, nat_tests)),
    record { port_below = grind (arith, nat_tests); terminals_most = grind (arith, nat_tests); links_most = grind (arith, nat_tests) },
  ),
  λ h. grind (arith, nat_tests),
)

module _ (m : Meaning) (keeps : KeepsRoutes m) (d : Module) (fits : Fits (size_of m) d) where
  some_crossed : (p : Pair) → (spur_meaning m d).routed p ≡ true → (k : ℕ) × ((spur_meaning m d).crossed p k ≡ true)
  some_crossed p h = go (in_module (size_of m) d p.source) (in_module (size_of m) d p.destination) refl refl
    where
      go : (out into : Bool) → in_module (size_of m) d p.source ≡ out → in_module (size_of m) d p.destination ≡ into →
          (k : ℕ) × ((spur_meaning m d).crossed p k ≡ true)
      go true into eo ei = (m.links, grind (arith, nat_tests))
      go false true eo ei = (m.links + 1, grind (arith, nat_tests))
      go false false eo ei =
          let r : m.routed p ≡ true = grind (arith, nat_tests) in
          let c = keeps.crosses_some p r in
          (c.0, grind (arith, nat_tests, c.1))

  pub spur_keeps : KeepsRoutes (spur_meaning m d)
  spur_keeps = record {
    terminals_least = omega arith;
    terminals_most = fits.terminals_most;
    links_least = omega arith;
    links_most = fits.links_most;
    crosses_some = some_crossed;
    crosses_below = λ p k h. grind (arith, nat_tests, keeps.crosses_below p k, keeps.crosses_below (from_port d p) k, keeps.crosses_below (to_port d p) k);
    crosses_routed = λ p k h. grind (arith, nat_tests, keeps.crosses_routed p k);
    apart = λ p h e. grind (arith, nat_tests, keeps.apart p, keeps.destination_below (from_port d p), keeps.source_below (to_port d p));
    source_below = λ p h. grind (arith, nat_tests, keeps.source_below p, keeps.source_below (to_port d p));
    destination_below = λ p h. grind (arith, nat_tests, keeps.destination_below p, keeps.destination_below (from_port d p));
  }

pub spurred_keeps : (m : Meaning) → KeepsRoutes m → (d : Module) → KeepsRoutes (spurred m d)
spurred_keeps m keeps d = go (joinable (size_of m) d) refl
  where
    go : (b : Bool) → joinable (size_of m) d ≡ b → KeepsRoutes (cond b (spur_meaning m d) m)
    go true e = spur_keeps m keeps d ((joinable_decides (size_of m) d).0 e).1
    go false e = keeps

pub spur_laws : (m : Meaning) → KeepsRoutes m → (d : Module) → SpurLaws m d
spur_laws m keeps d = record {
  decides = joinable_decides (size_of m) d;
  stays_routed = λ p s t. grind (arith, nat_tests);
  stays_crossed = λ p s t k. grind (arith, nat_tests);
  none_among = λ p s t. grind (arith, nat_tests, keeps.source_below p, keeps.destination_below (from_port d p));
}
