use Rattle.std.proofs.Common.{◌≡◌, ℕ, ◌<◌, eqb, not, List, length, sym, refl, ap, ◌∙◌, arith, rules}
use Rattle.std.proofs.lemmas.Bool.{and_left, eq-eqb, not_from_true}
use Rattle.std.proofs.lemmas.List.{get_or_past}
use Rattle.planner.specs.declared.bookings.Bookings.{Bookings}
use Rattle.planner.specs.declared.flow_sets.FlowSet.{FlowSet}
use Rattle.planner.specs.Bookings.{none_past, overlap_of, overlap_mutual}
use Rattle.planner.specs.FlowSets.{members}
use Rattle.planner.specs.Groups.{overlapping}
use Rattle.planner.specs.LinkSets.{share}
use Rattle.planner.proofs.FromFn.{from_fn_each}
use Rattle.planner.proofs.Memory.{by_number, routes_in, none_overlaps}
use Rattle.planner.proofs.Tables.{bit_none}
use Rattle.planner.proofs.bookings.Bookings.overlaps.Goals as goal

-- the groups of all numbers, from those of the numbers below 64
whole : (bs : Bookings) (groups : List FlowSet) → length groups ≡ 64 →
    ((f g : ℕ) → f < 64 → overlapping groups f g ≡ overlap_of (routes_in bs) f g) → (f g : ℕ) → overlapping groups f g ≡ overlap_of (routes_in bs) f g
whole bs groups long each f g =
    by_number (λ k. overlapping groups k g) (λ k. overlap_of (routes_in bs) k g) (λ k low. each k g low)
    (λ k past. ap (λ (x : FlowSet). members x g) (get_or_past groups k (record { 0 = 0 }) (omega arith)) ∙ bit_none g ∙ sym (none_overlaps bs k g (none_past bs k past)))
    f

-- the groups that are made
each : (c : goal.After-from_fn-groups) → (f g : ℕ) → overlapping c.from_fn-groups.result f g ≡ overlap_of (routes_in c.args.self.now) f g
each c =
    let bs = c.args.self.now in
    let is : ℕ → FlowSet → Type 0 = λ f group. (g : ℕ) → members group g ≡ overlap_of (routes_in bs) f g in
    whole bs c.from_fn-groups.result c.from_fn-groups.ensures.items.long
    (λ f g low. from_fn_each _ is _ (λ i y q k. search rules) c.from_fn-groups.result (record { 0 = 0 }) 64 c.from_fn-groups.ensures.items f low g)

pub returns : goal.returns
returns c = each c.before

pub invariant_of-result : goal.invariant_of-result
invariant_of-result c =
    let routes = routes_in c.args.self.now in
    record {
      symmetric = λ f g. each c f g ∙ overlap_mutual routes f g ∙ sym (each c g f);
      apart = λ f. each c f f ∙ and_left (not (eqb f f)) (share (routes f) (routes f)) (not_from_true (eqb f f) (eq-eqb f f refl));
    }
