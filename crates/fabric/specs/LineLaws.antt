-- A line keeps its routes.
use Rattle.std.specs.Prelude.{ℕ, min}
use Rattle.std.proofs.Common.{arith}
use Rattle.std.proofs.lemmas.Bool.Decides.{nat_tests}
use Rattle.fabric.specs.Meaning.{KeepsRoutes}
use Rattle.fabric.specs.Lines.{LineSize, line_meaning}

pub line_keeps : (n : ℕ) → LineSize n → KeepsRoutes (line_meaning n)
line_keeps n size = record {
  terminals_least = size.0;
  terminals_most = size.1;
  links_least = omega arith;
  links_most = omega arith;
  crosses_some = λ p h. (min p.source p.destination, grind (arith, nat_tests));
  crosses_below = λ p k h. grind (arith, nat_tests);
  crosses_routed = λ p k h. grind (arith, nat_tests);
  apart = λ p h e. grind (arith, nat_tests);
  source_below = λ p h. grind (arith, nat_tests);
  destination_below = λ p h. grind (arith, nat_tests);
}
