use Rattle.std.proofs.Common.{◌≡◌, is_some, sym, ap, ◌∙◌, rules}
use Rattle.planner.specs.Bookings.{booking_at, none_past}
use Rattle.planner.specs.FlowSets.{members}
use Rattle.planner.proofs.Memory.{by_number}
use Rattle.planner.proofs.bookings.Bookings.flows.Goals as goal

pub returns : goal.returns
returns c =
    let bs = c.args.self.now in
    by_number (members c.flows_that.result) (λ n. is_some (booking_at bs n))
    (λ n low. let p = c.flows_that.ensures.passed n low in let so : members c.flows_that.result n ≡ is_some (booking_at bs p.0.number) = search rules in so ∙ ap (λ k. is_some (booking_at bs k)) p.1)
    (λ n past. c.flows_that.ensures.others n past ∙ sym (ap is_some (none_past bs n past)))
