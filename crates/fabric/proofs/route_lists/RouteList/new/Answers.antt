use Rattle.std.proofs.Common.{refl}
use Rattle.fabric.specs.RouteLists.{bare}
use Rattle.fabric.specs.RouteKept.{bare_lawful, read_meaning}
use Rattle.fabric.proofs.route_lists.RouteList.new.Goals as goal

pub invariant_of-result : goal.invariant_of-result
invariant_of-result c = record { kept = ∣ (bare, bare_lawful, refl) ∣₁ }

pub returns-in_default-clause-refused : goal.returns-in_default-clause-refused
returns-in_default-clause-refused c = λ _. read_meaning bare _ bare_lawful refl

pub returns-clause-accepted : goal.returns-clause-accepted
returns-clause-accepted c = λ v ok e. read_meaning v _ ok e
