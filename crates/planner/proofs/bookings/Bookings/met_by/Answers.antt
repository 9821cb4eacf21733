use Rattle.std.proofs.Common.{◌≡◌, ℕ, sym, ap, ◌∙◌, rules}
use Rattle.planner.specs.Bookings.{booking_at, kept_route, none_past}
use Rattle.planner.specs.FlowSets.{members}
use Rattle.planner.specs.LinkSets.{crossing, share}
use Rattle.planner.proofs.Memory.{by_number, none_shares}
use Rattle.planner.proofs.bookings.Bookings.met_by.Goals as goal

pub returns : goal.returns
returns c =
    let bs = c.args.self.now in
    let mine = crossing c.args.links.now in
    by_number (members c.flows_that.result) (λ n. share mine (kept_route (booking_at bs n)))
    (λ n low. let p = c.flows_that.ensures.passed n low in let so : members c.flows_that.result n ≡ share mine (kept_route (booking_at bs p.0.number)) = search rules in so ∙ ap (λ (k : ℕ). share mine (kept_route (booking_at bs k))) p.1)
    (λ n past. c.flows_that.ensures.others n past ∙ sym (none_shares mine (booking_at bs n) (none_past bs n past)))
