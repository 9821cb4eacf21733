-- A pile keeps its routes, over any fabric that does.
use Rattle.fabric.specs.Meaning.{Meaning, KeepsRoutes}
use Rattle.fabric.specs.SpurLaws.{spurred_keeps}
use Rattle.report.specs.declared.piles.Pile.{Pile}
use Rattle.report.specs.declared.piles.Pile.TheVariants.{Base, Joined'}
use Rattle.report.specs.Piles.{pile_meaning}

pub pile_keeps : {F : Type 0} (means : F → Meaning) → ((f : F) → KeepsRoutes (means f)) → (pile : Pile F) → KeepsRoutes (pile_meaning means pile)
pile_keeps means keeps (Base fabric) = keeps fabric
pile_keeps means keeps (Joined' p below «module») = spurred_keeps (pile_meaning means below) (pile_keeps means keeps below) «module»
