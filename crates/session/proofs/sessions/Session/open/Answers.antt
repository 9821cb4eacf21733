use Rattle.std.proofs.Common.{false, refl}
use Rattle.planner.specs.Shown.{shows}
use Rattle.session.proofs.Naming.{opened_named}
use Rattle.session.proofs.sessions.Session.open.Goals as goal

pub invariant_of-result : goal.invariant_of-result
invariant_of-result g c =
    record {
      sized = refl;
      named = opened_named (shows g.F.Fabric.meaning false c.open.result) c.open.ensures.0;
    }
