-- How the planning of a set of flows comes out.
use Rattle.std.proofs.Common.{ℕ, Bool, ◌⊎◌, List, inl, inr, ⊎_elim}
use Rattle.planner.specs.Orders.{Below, Order, Chosen}
use Rattle.planner.specs.Slots.{Load}
use Rattle.planner.specs.Plans.{Placed, Overfull, PlansStand}
use Rattle.planner.proofs.Choices.{orders_stand}
use Rattle.planner.proofs.Runs.{greedy_stands}

ordered : (load : Load) (p : ℕ → Bool) → Below load.flows p → (xs : List ℕ) → Chosen load.overlap p xs → Order load.overlap p xs → Placed load p ⊎ Overfull load p
ordered load p b xs c o =
    let along = greedy_stands load p xs b o in
    ⊎_elim
    (λ made. inl (record { chosen = xs; chosen_is = c; order = o; table = made.0; greedy = made.1; placing = along.places made.0 made.1 }))
    (λ fell. inr (record { chosen = xs; chosen_is = c; order = o; table = fell.0; short = fell.1; none = along.refutes fell.0 fell.1 }))
    along.ends

pub plans_stand : PlansStand
plans_stand load p b =
    let choice = orders_stand load.flows load.overlap p b in
    ⊎_elim
    (λ c. inr (ordered load p b c.0 c.1 (choice.makes c.0 c.1)))
    (λ s. inl (record { chosen = s.0; stuck = s.1; none = λ ys. choice.refutes s.0 ys s.1 }))
    choice.ends
