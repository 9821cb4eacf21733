-- The refusals of this crate, and how the checks of a call choose among them.
use Rattle.std.specs.Prelude.{◌≡◌, ℕ, ◌⊎◌, List, [], ◌∷◌}
use Rattle.labels.specs.declared.faults.LabelFault.{LabelFault}
use Rattle.labels.specs.declared.faults.LabelFault.TheVariants.{NoFlow, WrongMemory, EntryBound, LabelBound, LabelUnknown}

-- each refusal by its number; none has values
abbrev pub numbered : LabelFault → ℕ × List ℕ
numbered NoFlow = (4, [])
numbered WrongMemory = (7, [])
numbered EntryBound = (11, [])
numbered LabelBound = (20, [])
numbered LabelUnknown = (21, [])

-- The checks of a call stand in a list, in their order: the number of a refusal, and what must hold.

-- every check holds
abbrev pub AllHold : List (ℕ × Type 0) → Type 0
AllHold [] = Unit {0}
AllHold ((number, Holds) ∷ rest) = Holds × AllHold rest

-- some check does not hold, and the fault is that of the first
abbrev pub FirstFails : List (ℕ × Type 0) → LabelFault → Type 0
FirstFails [] fault = ⊥
FirstFails ((number, Holds) ∷ rest) fault = ((Holds → ⊥) × (numbered fault ≡ (number, []))) ⊎ (Holds × FirstFails rest fault)
