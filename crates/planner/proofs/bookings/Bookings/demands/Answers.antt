use Rattle.std.proofs.Common.{◌≡◌, ℕ, get_or, sym, ap, ◌∙◌, arith, rules}
use Rattle.std.proofs.lemmas.List.{get_or_past}
use Rattle.planner.specs.Bookings.{booking_at, booked_flow, demand_of, none_past}
use Rattle.planner.proofs.FromFn.{from_fn_each}
use Rattle.planner.proofs.Memory.{by_number}
use Rattle.planner.proofs.bookings.Bookings.demands.Goals as goal

pub returns : goal.returns
returns c =
    let bs = c.args.self.now in
    let is : ℕ → ℕ → Type 0 = λ n demand. demand ≡ demand_of (booked_flow (booking_at bs n)) in
    by_number (λ n. get_or c.from_fn.result n 0) (λ n. demand_of (booked_flow (booking_at bs n)))
    (λ n low. from_fn_each _ is _ (λ i y q k. search rules) c.from_fn.result 0 64 c.from_fn.ensures.items n low)
    (λ n past. get_or_past c.from_fn.result n 0 (omega (arith, c.from_fn.ensures.items.long)) ∙ sym (ap (λ o. demand_of (booked_flow o)) (none_past bs n past)))
