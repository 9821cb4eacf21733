use Rattle.std.proofs.Common.{rules}
use Rattle.planner.proofs.Tables.{bit_none, repeated}
use Rattle.planner.proofs.slots.SlotTable.empty.Goals as goal

pub returns : goal.returns
returns c = λ f s. repeated _ (record { 0 = 0 }) 255 s f (search rules) (bit_none f)
