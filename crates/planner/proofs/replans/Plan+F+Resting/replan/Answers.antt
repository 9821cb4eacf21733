use Rattle.std.proofs.Common.{sym, refl, ◌∙◌}
use Rattle.std.proofs.lemmas.Result.{err_from_is_err_and}
use Rattle.planner.specs.FlowSets.{members}
use Rattle.planner.specs.Loads.{load_of}
use Rattle.planner.specs.PlanFaults.{fault_of}
use Rattle.planner.specs.Placements.{PlacedInOrder, Unplanned}
use Rattle.planner.specs.Tables.{holds}
use Rattle.planner.proofs.Replanning.{placed_owned, placed_within, of_bookings, placed_in_order, unplanned}
use Rattle.planner.proofs.replans.Plan+F+Resting.replan.Goals as goal

pub invariant_of-self : goal.invariant_of-self
invariant_of-self g c =
    let load = load_of c.overlaps.result c.demands.result c.args.self.now.period.slots in
    let p = members c.flows.result in
    let t = holds c.in_ok-self.field-0 in
    let so = placed_in_order load p c.in_ok-self.field-0 (c.in_ok-self.ensures) in
    record {
      owned = λ n s held. sym (c.flows.ensures n) ∙ placed_owned load p t so n s held;
      within = placed_within load p t so;
    }

pub returns : goal.returns
returns g c =
    let period = c.args.self.now.period.slots in
    let so = placed_in_order (load_of c.overlaps.result c.demands.result period) (members c.flows.result) c.in_ok-self.field-0 (c.in_ok-self.ensures) in
    record {
      frame = record { meaning = refl; period = refl; running = refl };
      booked = λ k. refl;
      route = λ k link. refl;
      placed =
          of_bookings c.args.self.now.bookings c.flows.result c.overlaps.result c.demands.result period
          c.flows.ensures c.overlaps.ensures c.demands.ensures (λ load p. PlacedInOrder load p (holds c.in_ok-self.field-0)) so;
    }

pub returns-in_err-self : goal.returns-in_err-self
returns-in_err-self g c =
    let period = c.args.self.now.period.slots in
    let so = unplanned (load_of c.overlaps.result c.demands.result period) (members c.flows.result) c.in_err-self.field-0.0 (c.in_err-self.ensures) in
    let told =
    of_bookings c.args.self.now.bookings c.flows.result c.overlaps.result c.demands.result period
    c.flows.ensures c.overlaps.ensures c.demands.ensures (λ load p. Unplanned load p (fault_of c.in_err-self.field-0.0)) so in
    let p = err_from_is_err_and c.from_residual.result c.from_residual.ensures.1 in
    rw (p.1, p.2) (told, refl)
