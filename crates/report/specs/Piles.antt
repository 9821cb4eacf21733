-- A fabric with any number of spurs on it, one on the other.
use Rattle.fabric.specs.Meaning.{Meaning}
use Rattle.fabric.specs.Spurs.{spurred}
use Rattle.report.specs.declared.piles.Pile.{Pile}
use Rattle.report.specs.declared.piles.Pile.TheVariants.{Base, Joined'}

-- what a pile means: each module makes a spur on the pile below it
abbrev pub pile_meaning : {F : Type 0} → (F → Meaning) → Pile F → Meaning
pile_meaning means (Base fabric) = means fabric
pile_meaning means (Joined' p below «module») = spurred (pile_meaning means below) «module»
