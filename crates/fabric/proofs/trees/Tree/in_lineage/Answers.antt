use Rattle.std.proofs.Common.{◌≡◌, ℕ, zero, suc, ◌-◌, ◌≤◌, List, get_or, refl, arith}
use Rattle.fabric.specs.Trees.{parent_of}
use Rattle.fabric.specs.TreeLaws.{parent_under, alike_up, alike_met}
use Rattle.fabric.proofs.trees.Tree.in_lineage.Goals as goal

parent_above : (ps : List ℕ) (v : ℕ) → 1 ≤ v → parent_of ps v ≡ get_or ps (v - 1) 0
parent_above ps zero least = omega arith
parent_above ps (suc k) least = let e : suc k - 1 ≡ k = omega arith in rw e refl

-- the next terminal on the way up is the parent
stepped : (c : goal.After-from-at) → parent_of c.args.self.now.parents.items c.loop-at.at ≡ c.from-at.result
stepped c =
    let e = parent_above c.args.self.now.parents.items c.loop-at.at (omega arith) in cc

pub loop-at-smaller : goal.loop-at-smaller
loop-at-smaller c =
    omega (arith, stepped c, parent_under c.args.self.now.parents.items c.args.self.now.lawful c.loop-at.at)

pub loop-at-preserved : goal.loop-at-preserved
loop-at-preserved c =
    (omega (arith, loop-at-smaller c), alike_up _ _ _ _ _ c.loop-at.invariant.1 c.loop-at-test.true (stepped c))

pub returns : goal.returns
returns c = alike_met _ c.args.self.now.lawful _ _ _ c.loop-at.invariant.1 c.loop-at-test.false
