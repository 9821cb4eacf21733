use Rattle.std.proofs.Common.{◌≡◌, ℕ, ◌-◌, ◌^◌, ◌<◌, true, sym, subst, arith, rules}
use lib.Count.{count_leading_zeros}
use Rattle.planner.specs.FlowSets.{members}
use Rattle.planner.proofs.Bits.{top_bit}
use Rattle.planner.proofs.flow_sets.FlowSet.take_highest.Goals as goal

pub returns : goal.returns
returns c =
    let set = c.args.self.now in
    let fits : set.0 < 2 ^ 64 = search rules in
    let top = top_bit 64 set.0 fits (omega arith) in
    let is : 63 - count_leading_zeros 64 set.0 ≡ top.0 = omega (arith, top.1) in
    (subst (λ (n : ℕ). members set n ≡ true) (sym is) top.2, λ k above. top.3 k (omega arith), c.remove.ensures)
