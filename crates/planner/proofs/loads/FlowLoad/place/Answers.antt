use Rattle.std.proofs.Common.{◌≡◌, ℕ, Bool, List, [], ◌∷◌, Ok, Err, Result, sym, subst, rules}
use Rattle.std.specs.Prelude.{MatchResult, IsErrAnd}
use Rattle.std.proofs.lemmas.Result.{err_from_is_err_and}
use Rattle.planner.specs.declared.flow_sets.FlowSet.{FlowSet}
use Rattle.planner.specs.declared.slots.SlotTable.{SlotTable}
use Rattle.planner.specs.declared.unplaced.Unplaced.{Unplaced}
use Rattle.planner.specs.declared.unplaced.Unplaced.TheVariants.{NoPlacing}
use Rattle.planner.specs.FlowOrders.{listed}
use Rattle.planner.specs.FlowSets.{members}
use Rattle.planner.specs.Groups.{overlapping}
use Rattle.planner.specs.Loads.{load_of}
use Rattle.planner.specs.Orders.{Orderly, Order, Chosen}
use Rattle.planner.specs.Placings.{Once, Outcome, Verdict}
use Rattle.planner.specs.Planning.{Planned}
use Rattle.planner.specs.Slots.{Load}
use Rattle.planner.proofs.loads.FlowLoad.place.Goals as goal

-- in an order each flow comes once
orderly_once : (ov : ℕ → ℕ → Bool) (xs : List ℕ) → Orderly ov xs → Once xs
orderly_once ov [] fine = tt
orderly_once ov (f ∷ es) fine = (fine.0, orderly_once ov es fine.2)

-- what came of the placing along the chosen order is what comes of the planning
planned : (load : Load) (p : ℕ → Bool) (xs : List ℕ) (r : Result SlotTable FlowSet) (m : Result SlotTable Unplaced) → Chosen load.overlap p xs × Order load.overlap p xs →
    Outcome load xs r → Verdict load xs r → MatchResult r (λ table. m ≡ Ok table) (λ group. IsErrAnd m (λ fault. fault ≡ NoPlacing group)) → Planned load p m
planned load p xs (Ok table) m both so told is = subst (Planned load p) (sym is) (xs, both.0, both.1, so, told p both.1)
planned load p xs (Err group) m both so told is =
    let fault = err_from_is_err_and m is in
    rw (fault.1, fault.2) (xs, both.0, both.1, so, told p both.1)

pub place_along-requires : goal.place_along-requires
place_along-requires c =
    let ov = overlapping c.args.self.now.overlaps.groups in
    let both : Chosen ov (members c.args.self.now.flows) (listed c.in_ok-order.order) × Order ov (members c.args.self.now.flows) (listed c.in_ok-order.order) = search (rules, c.chosen_order.ensures) in
    rw c.as_slice.ensures (orderly_once ov _ both.1.fine)

pub returns : goal.returns
returns c =
    let load = load_of c.args.self.now.overlaps c.args.self.now.demands c.args.self.now.period in
    let p = members c.args.self.now.flows in
    let xs = listed c.in_ok-order.order in
    let both : Chosen load.overlap p xs × Order load.overlap p xs = search (rules, c.chosen_order.ensures) in
    let told = rw c.as_slice.ensures at c.place_along.ensures in
    planned load p xs c.place_along.result c.map_err-2.result both told.outcome told.verdict c.map_err-2.ensures.cases
