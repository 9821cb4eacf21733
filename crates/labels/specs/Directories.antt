-- The directory: 64 entries in the caller's memory. Entry n, a label or nothing, belongs to flow n.
use Rattle.std.specs.Prelude.{◌≡◌, ℕ, ◌<◌, Bool, true, false, List, [], ◌∷◌, length, Some, None, Ok, Err, Option, Result, slice_index_or, slice_set}
use Rattle.labels.specs.declared.faults.LabelFault.{LabelFault}
use Rattle.labels.specs.Faults.{AllHold, FirstFails}

module _ {L : Type 0} where
  -- the memory that a directory needs
  abbrev pub Whole : List (Option L) → Type 0
  Whole entries = length entries ≡ 64

  -- the entry of flow n; past the memory there is nothing
  abbrev pub entry_of : List (Option L) → ℕ → Option L
  entry_of entries n = slice_index_or entries n None

module _ {L : Type 0} (same : L → L → Bool) where
  -- whether an entry holds the label, or one that is the same
  abbrev pub holds : Option L → L → Bool
  holds None label = false
  holds (Some held) label = same held label

  -- the label names flow n
  abbrev pub BoundAt : List (Option L) → L → ℕ → Type 0
  BoundAt entries label n = holds (entry_of entries n) label ≡ true

  -- the label names some flow
  abbrev pub Bound : List (Option L) → L → Type 0
  Bound entries label = (n : ℕ) × BoundAt entries label n

  -- the label names no flow
  abbrev pub Unbound : List (Option L) → L → Type 0
  Unbound entries label = Bound entries label → ⊥

  -- n is the lowest flow that the label names
  abbrev pub Lowest : List (Option L) → L → ℕ → Type 0
  Lowest entries label n = (n < 64) × BoundAt entries label n × ((k : ℕ) → k < n → BoundAt entries label k → ⊥)

  -- what is answered for a label: the lowest flow that it names, or none
  abbrev pub Finds : List (Option L) → L → Result (Option ℕ) LabelFault → Type 0
  Finds entries label (Ok (Some n)) = Whole entries × Lowest entries label n
  Finds entries label (Ok None) = Whole entries × Unbound entries label
  Finds entries label (Err fault) = FirstFails ((7, Whole entries) ∷ []) fault

  -- the same where the label must name a flow
  abbrev pub FindsBound : List (Option L) → L → Result ℕ LabelFault → Type 0
  FindsBound entries label (Ok n) = Whole entries × Lowest entries label n
  FindsBound entries label (Err fault) = FirstFails ((7, Whole entries) ∷ (21, Bound entries label) ∷ []) fault

  -- what must hold for a label to be bound to a flow
  abbrev pub bind_checks : List (Option L) → ℕ → L → List (ℕ × Type 0)
  bind_checks entries number label =
      (7, Whole entries) ∷ (4, number < 64) ∷ (20, Unbound entries label) ∷ (11, entry_of entries number ≡ None) ∷ []

  -- bound, the flow's entry is the label and every other is as it was; refused, every entry is
  abbrev pub Binds : List (Option L) → ℕ → L → List (Option L) → Result (Unit {0}) LabelFault → Type 0
  Binds before number label after (Ok done) =
      AllHold (bind_checks before number label) × (after ≡ slice_set before number (Some label))
  Binds before number label after (Err fault) = FirstFails (bind_checks before number label) fault × (after ≡ before)

  -- no label names two flows
  abbrev pub Apart : List (Option L) → Type 0
  Apart entries = (label : L) (j k : ℕ) → BoundAt entries label j → BoundAt entries label k → j ≡ k

module _ {L : Type 0} where
  -- what must hold for a flow's entry to be emptied
  abbrev pub unbind_checks : List (Option L) → ℕ → List (ℕ × Type 0)
  unbind_checks entries number = (7, Whole entries) ∷ (4, number < 64) ∷ []

  -- emptied, the flow's entry is empty and every other is as it was; refused, every entry is
  abbrev pub Unbinds : List (Option L) → ℕ → List (Option L) → Result (Unit {0}) LabelFault → Type 0
  Unbinds before number after (Ok done) = AllHold (unbind_checks before number) × (after ≡ slice_set before number None)
  Unbinds before number after (Err fault) = FirstFails (unbind_checks before number) fault × (after ≡ before)
