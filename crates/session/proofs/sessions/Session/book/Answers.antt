use Rattle.std.proofs.Common.{length, ap, ◌∙◌, length-set, rules}
use Rattle.planner.specs.Outcomes.{any_shows}
use Rattle.session.specs.Parts.{state_of}
use Rattle.session.specs.Sessions.{State}
use Rattle.session.proofs.Booking.{not_booked, restored}
use Rattle.session.proofs.Naming.{booked_named, kept_named, refused_same}
use Rattle.session.proofs.sessions.Session.book.Goals as goal

pub invariant_of-self-in-Err : goal.invariant_of-self-in-Err
invariant_of-self-in-Err g c =
    let s = state_of c.args.self.now in
    let mid = c.bind.new.entries in
    let after = c.unbind.new.entries in
    let shown = any_shows g.F.Fabric.meaning c.make.new.plan in
    let bound = c.in_ok-bind.ensures.done in
    let again = restored s c.args.wanted mid after c.unbind.result bound.0 bound.1 c.unbind.ensures.done in
    let t : State = record { shown = shown; labels = after } in
    let same = refused_same (record { shown = s.shown; labels = mid }) (record { shown = shown; labels = mid }) c.args.call c.in-Err.fault (c.in-Err.ensures mid) in
    record {
      sized = ap length again ∙ c.args.self.now.sized;
      named = kept_named s t again (λ k. ap (λ u. u.shown.booked k) same) c.args.self.now.named;
    }

pub returns-in-Err : goal.returns-in-Err
returns-in-Err g c =
    let s = state_of c.args.self.now in
    let mid = c.bind.new.entries in
    let after = c.unbind.new.entries in
    let bound = c.in_ok-bind.ensures.done in
    let again = restored s c.args.wanted mid after c.unbind.result bound.0 bound.1 c.unbind.ensures.done in
    not_booked s (any_shows g.F.Fabric.meaning c.make.new.plan) mid after c.args.call c.args.wanted c.in-Err.fault (search rules) bound.0 (c.in-Err.ensures mid) again

pub invariant_of-self-in_default : goal.invariant_of-self-in_default
invariant_of-self-in_default g c =
    let s = state_of c.args.self.now in
    let labels = c.bind.new.entries in
    let bound = c.in_ok-bind.ensures.done in
    let t : State = record { shown = any_shows g.F.Fabric.meaning c.make.new.plan; labels = labels } in
    record {
      sized = ap length bound.1 ∙ length-set s.labels c.args.wanted.number _ ∙ c.args.self.now.sized;
      named = booked_named s t c.args.call c.args.wanted c.requires bound.0 (c.in_default.ensures labels).1 bound.1 c.args.self.now.named;
    }

pub returns : goal.returns
returns g c =
    let called = c.in_default.ensures c.bind.new.entries in
    let bound = c.in_ok-bind.ensures.done in
    (called.0, bound.0, called.1, bound.1)
