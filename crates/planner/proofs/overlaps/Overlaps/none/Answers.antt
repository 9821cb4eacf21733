use Rattle.std.proofs.Common.{◌≡◌, ℕ, false, replicate, sym, ◌∙◌}
use Rattle.planner.specs.Groups.{overlapping}
use Rattle.planner.proofs.Tables.{bit_none, repeated}
use Rattle.planner.proofs.overlaps.Overlaps.none.Goals as goal

pub invariant_of-result : goal.invariant_of-result
invariant_of-result c =
    let nothing : (f g : ℕ) → overlapping (replicate 64 c.empty-nobody.result) f g ≡ false = λ f g. repeated c.empty-nobody.result (record { 0 = 0 }) 64 f g (c.empty-nobody.ensures g) (bit_none g) in
    record { symmetric = λ f g. nothing f g ∙ sym (nothing g f); apart = λ f. nothing f f }

pub returns : goal.returns
returns c = λ f g. repeated c.empty-nobody.result (record { 0 = 0 }) 64 f g (c.empty-nobody.ensures g) (bit_none g)
