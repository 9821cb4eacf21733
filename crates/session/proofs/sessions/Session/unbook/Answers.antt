use Rattle.std.proofs.Common.{length, None, sym, ap, ◌∙◌, subst, length-set}
use Rattle.std.proofs.lemmas.Result.{err_from_is_err_and}
use Rattle.labels.specs.Directories.{Lowest}
use Rattle.planner.specs.Outcomes.{any_shows}
use Rattle.planner.specs.declared.calls.Call.TheVariants.{Withdraw}
use Rattle.session.specs.Parts.{state_of}
use Rattle.session.specs.Sessions.{State, same_name}
use Rattle.session.proofs.Booking.{emptied, not_unbooked}
use Rattle.session.proofs.Naming.{refused_named, unbooked_named}
use Rattle.session.proofs.sessions.Session.unbook.Goals as goal

pub invariant_of-self : goal.invariant_of-self
invariant_of-self g c =
    let self = c.args.self.now in
    let t : State = record { shown = any_shows g.F.Fabric.meaning c.make.new.plan; labels = self.labels } in
    record {
      sized = self.sized;
      named = refused_named (state_of self) t (Withdraw c.from-number.result) c.in_err-make.field-0.0 (c.in_err-make.ensures self.labels) self.named;
    }

pub returns-in_err-make : goal.returns-in_err-make
returns-in_err-make g c =
    let s = state_of c.args.self.now in
    let t : State = record { shown = any_shows g.F.Fabric.meaning c.make.new.plan; labels = s.labels } in
    let p = err_from_is_err_and c.from_residual-in_err-make.result c.from_residual-in_err-make.ensures.1 in
    let lowest = subst (Lowest same_name s.labels c.args.name) (sym c.from-number.ensures) c.in_ok-find_bound.ensures.1 in
    rw (p.1, p.2)
    (not_unbooked s t c.args.name c.from-number.result c.in_err-make.field-0.0 lowest (c.in_err-make.ensures s.labels))

pub invariant_of-self-2 : goal.invariant_of-self-2
invariant_of-self-2 g c =
    let self = c.args.self.now in
    let n = c.from-number.result in
    let after = c.unbind.new.entries in
    let below = subst (Lowest same_name self.labels c.args.name) (sym c.from-number.ensures) c.in_ok-find_bound.ensures.1 in
    let free = emptied self.labels after n c.unbind.result self.sized below.0 c.unbind.ensures.done in
    let t : State = record { shown = any_shows g.F.Fabric.meaning c.make.new.plan; labels = after } in
    record {
      sized = ap length free ∙ length-set self.labels n None ∙ self.sized;
      named = unbooked_named (state_of self) t n self.sized below.0 (c.in_ok-make.ensures self.labels).1 free self.named;
    }

pub returns : goal.returns
returns g c =
    let labels = c.args.self.now.labels in
    let lowest = subst (Lowest same_name labels c.args.name) (sym c.from-number.ensures) c.in_ok-find_bound.ensures.1 in
    (c.from-number.result, lowest, (c.in_ok-make.ensures labels).1, c.in_ok-unbind.ensures.done.1)
