use Rattle.fabric.specs.SpurLaws.{spur_laws}
use Rattle.fabric.proofs.spurs.Spur.new.Goals as goal

pub returns-clause-laws : goal.returns-clause-laws
returns-clause-laws g c =
    spur_laws (g.F.Fabric.meaning c.args.below) (g.met.F.Fabric.keeps c.args.below) c.args.«module»
