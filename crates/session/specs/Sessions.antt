-- What a script's commands do: the plan, the labels of its flows, and how a command changes them.
use Rattle.std.specs.Prelude.{◌≡◌, ℕ, Bool, true, false, List, [], ◌∷◌, is_some, Some, None, Ok, Err, Option, Result, slice_set}
use Rattle.std.specs.Str.{bytes_eq}
use Rattle.labels.specs.Directories.{Bound, Lowest, Whole, bind_checks, entry_of}
use Rattle.labels.specs.Faults.{AllHold, FirstFails}
use Rattle.labels.specs.Names.{spelled}
use Rattle.labels.specs.declared.names.Name.{Name}
use Rattle.planner.specs.Shown.{Shown}
use Rattle.planner.specs.Steps.{Step, allowed}
use Rattle.planner.specs.declared.calls.Call as calls
use Rattle.planner.specs.declared.calls.Call.TheVariants as call
use Rattle.planner.specs.declared.flows.Flow.{Flow}
use Rattle.script.specs.declared.commands.Command.{Command}
use Rattle.script.specs.declared.commands.Command.TheVariants.{Enrol, Admit, Withdraw, Replan, Start, Rest, Show}
use Rattle.script.specs.declared.commands.Wanted.{Wanted}
use Rattle.session.specs.declared.faults.ScriptFault.{ScriptFault}
use Rattle.session.specs.declared.faults.ScriptFault.TheVariants.{NoForm, WrongState, Fabric, Label, Plan}

-- what the plan shows, and the labels of its flows, entry n that of flow n
pub record State : Type 0 where
  pub shown : Shown
  pub labels : List (Option Name)

abbrev pub Answer : Type 0
Answer = Result (Unit {0}) ScriptFault

-- names are the same label if they are spelled alike
abbrev pub same_name : Name → Name → Bool
same_name one other = bytes_eq (spelled one) (spelled other)

-- the flow that a command wants
abbrev pub flow_of : Wanted → Flow
flow_of w = record { ends = record { source = w.source; destination = w.destination }; demand = w.demand }

-- the label may be bound to the flow
abbrev pub label_checks : State → Wanted → List (ℕ × Type 0)
label_checks s w = bind_checks same_name s.labels w.number w.name

-- A call that books a flow under a label. The checks go: the state (19), then those of the label, then the plan's.
-- Refused, nothing changes; accepted, the label is the flow's.
abbrev pub BooksLabelled : State → calls.Call → Wanted → Answer → State → Type 0
BooksLabelled s c w (Ok done) t =
    (allowed s.shown.running c ≡ true) × AllHold (label_checks s w) × Step s.shown c (Ok tt) t.shown × (t.labels ≡ slice_set s.labels w.number (Some w.name))
BooksLabelled s c w (Err WrongState) t = (allowed s.shown.running c ≡ false) × (t ≡ s)
BooksLabelled s c w (Err (Label e)) t =
    (allowed s.shown.running c ≡ true) × FirstFails (label_checks s w) e × (t ≡ s)
BooksLabelled s c w (Err (Plan e)) t =
    (allowed s.shown.running c ≡ true) × AllHold (label_checks s w) × Step s.shown c (Err e) t.shown × (t ≡ s)
BooksLabelled s c w (Err NoForm) t = ⊥
BooksLabelled s c w (Err (Fabric e)) t = ⊥

-- The flow of a label is withdrawn, in either state. The checks go: the label's (21 where it names no flow), then the plan's.
-- Refused, nothing changes; accepted, the label is free.
abbrev pub UnbooksLabelled : State → Name → Answer → State → Type 0
UnbooksLabelled s name (Ok done) t =
    (n : ℕ) × Lowest same_name s.labels name n × Step s.shown (call.Withdraw n) (Ok tt) t.shown × (t.labels ≡ slice_set s.labels n None)
UnbooksLabelled s name (Err (Label e)) t =
    FirstFails ((7, Whole s.labels) ∷ (21, Bound same_name s.labels name) ∷ []) e × (t ≡ s)
UnbooksLabelled s name (Err (Plan e)) t =
    (n : ℕ) × Lowest same_name s.labels name n × Step s.shown (call.Withdraw n) (Err e) t.shown × (t ≡ s)
UnbooksLabelled s name (Err NoForm) t = ⊥
UnbooksLabelled s name (Err WrongState) t = ⊥
UnbooksLabelled s name (Err (Fabric e)) t = ⊥

-- A call that leaves these labels. The checks go: the state (19), then the plan's. Refused, nothing changes.
abbrev pub Makes : State → calls.Call → List (Option Name) → Answer → State → Type 0
Makes s c labels (Ok done) t =
    (allowed s.shown.running c ≡ true) × Step s.shown c (Ok tt) t.shown × (t.labels ≡ labels)
Makes s c labels (Err WrongState) t = (allowed s.shown.running c ≡ false) × (t ≡ s)
Makes s c labels (Err (Plan e)) t = (allowed s.shown.running c ≡ true) × Step s.shown c (Err e) t.shown × (t ≡ s)
Makes s c labels (Err NoForm) t = ⊥
Makes s c labels (Err (Fabric e)) t = ⊥
Makes s c labels (Err (Label e)) t = ⊥

-- a call without a label: the labels stay
abbrev pub Calls : State → calls.Call → Answer → State → Type 0
Calls s c a t = Makes s c s.labels a t

-- what a command does, and its answer; `show` does nothing and has none
abbrev pub Obeyed : State → Command → Answer → State → Type 0
Obeyed s (Enrol w) a t = BooksLabelled s (call.Enrol w.number (flow_of w)) w a t
Obeyed s (Admit w) a t = BooksLabelled s (call.Admit w.number (flow_of w)) w a t
Obeyed s (Withdraw name) a t = UnbooksLabelled s name a t
Obeyed s Replan a t = Calls s call.Replan a t
Obeyed s Start a t = Calls s call.Start a t
Obeyed s Rest a t = Calls s call.Rest a t
Obeyed s Show a t = ⊥

-- every booked flow has a label, and no other
abbrev pub Named : State → Type 0
Named s = (n : ℕ) → is_some (entry_of s.labels n) ≡ is_some (s.shown.booked n)
