use Rattle.std.proofs.Common.{ap}
use Rattle.planner.specs.Outcomes.{any_shows}
use Rattle.planner.specs.declared.calls.Call.TheVariants.{Replan, Start, Rest}
use Rattle.session.specs.Parts.{state_of}
use Rattle.session.specs.Sessions.{State}
use Rattle.session.proofs.Naming.{called_named}
use Rattle.session.proofs.sessions.Session.obey.Goals as goal

pub invariant_of-self : goal.invariant_of-self
invariant_of-self g c =
    let self = c.args.self.now in
    let t : State = record { shown = any_shows g.F.Fabric.meaning c.make.new.plan; labels = self.labels } in
    record {
      sized = self.sized;
      named = called_named (state_of self) t Replan c.make.result (λ step. step.booked) (c.make.ensures self.labels) self.named;
    }

pub invariant_of-self-in-Start : goal.invariant_of-self-in-Start
invariant_of-self-in-Start g c =
    let self = c.args.self.now in
    let t : State = record { shown = any_shows g.F.Fabric.meaning c.make-in-Start.new.plan; labels = self.labels } in
    record {
      sized = self.sized;
      named = called_named (state_of self) t Start c.make-in-Start.result (λ step k. ap (λ u. u.booked k) step) (c.make-in-Start.ensures self.labels) self.named;
    }

pub invariant_of-self-in-Rest : goal.invariant_of-self-in-Rest
invariant_of-self-in-Rest g c =
    let self = c.args.self.now in
    let t : State = record { shown = any_shows g.F.Fabric.meaning c.make-in-Rest.new.plan; labels = self.labels } in
    record {
      sized = self.sized;
      named = called_named (state_of self) t Rest c.make-in-Rest.result (λ step k. ap (λ u. u.booked k) step) (c.make-in-Rest.ensures self.labels) self.named;
    }
