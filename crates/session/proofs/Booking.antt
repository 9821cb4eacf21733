-- Commands with a label, put together from the label's part and the plan's.
use Rattle.std.proofs.Common.{◌≡◌, ℕ, ◌<◌, true, List, get_or, set, length, Some, None, Ok, Err, Option, Result, sym, ap, ◌∙◌, ⊎_elim, length-set, set-set}
use lib.Seq.{set-get_or}
use Rattle.labels.specs.Directories.{Lowest, Unbinds}
use Rattle.labels.specs.Faults.{AllHold}
use Rattle.labels.specs.declared.faults.LabelFault.{LabelFault}
use Rattle.labels.specs.declared.names.Name.{Name}
use Rattle.planner.specs.Shown.{Shown}
use Rattle.planner.specs.Steps.{allowed}
use Rattle.planner.specs.declared.calls.Call.{Call}
use Rattle.planner.specs.declared.calls.Call.TheVariants.{Withdraw}
use Rattle.script.specs.declared.commands.Wanted.{Wanted}
use Rattle.session.specs.Sessions.{BooksLabelled, Calls, State, UnbooksLabelled, label_checks, same_name}
use Rattle.session.specs.declared.faults.ScriptFault.{ScriptFault}
use Rattle.session.specs.declared.faults.ScriptFault.TheVariants.{NoForm, WrongState, Fabric, Label, Plan}

-- an entry that was empty, filled and emptied again
as_before : (labels : List (Option Name)) (n : ℕ) (name : Name) → get_or labels n None ≡ None → set (set labels n (Some name)) n None ≡ labels
as_before labels n name e =
    set-set labels n (Some name) None ∙ ap (λ v. set labels n v) (sym e) ∙ set-get_or labels n None

-- an entry is emptied: the memory and the number are as they must be
pub emptied : (before after : List (Option Name)) (n : ℕ) (r : Result (Unit {0}) LabelFault) → length before ≡ 64 → n < 64 → Unbinds before n after r → after ≡ set before n None
emptied before after n (Ok x) whole inside h = h.1
emptied before after n (Err f) whole inside h =
    absurd (⊎_elim (λ a. a.0 whole) (λ b. ⊎_elim (λ a. a.0 inside) (λ z. z.1) b.1) h.0)

-- a label that was bound is unbound again
pub restored : (s : State) (w : Wanted) (mid after : List (Option Name)) (r : Result (Unit {0}) LabelFault)
    → AllHold (label_checks s w) → mid ≡ set s.labels w.number (Some w.name) → Unbinds mid w.number after r → after ≡ s.labels
restored s w mid after r all e u =
    emptied mid after w.number r (ap length e ∙ length-set s.labels w.number (Some w.name) ∙ all.0) all.1.0 u
    ∙ ap (λ l. set l w.number None) e
    ∙ as_before s.labels w.number w.name all.1.1.1.0

-- the call was refused, with the label bound, and the labels are again as they were
pub not_booked : (s : State) (t : Shown) (mid after : List (Option Name)) (c : Call) (w : Wanted) (f : ScriptFault)
    → allowed s.shown.running c ≡ true → AllHold (label_checks s w)
    → Calls (record { shown = s.shown; labels = mid }) c (Err f) (record { shown = t; labels = mid })
    → after ≡ s.labels
    → BooksLabelled s c w (Err f) (record { shown = t; labels = after })
not_booked s t mid after c w NoForm al all h again = h
not_booked s t mid after c w WrongState al all h again = let no = h.0 in cc
not_booked s t mid after c w (Fabric fault) al all h again = h
not_booked s t mid after c w (Label fault) al all h again = absurd h
not_booked s t mid after c w (Plan fault) al all h again =
    (al, all, h.1, ap (λ p. record { shown = p.shown; labels = after }) h.2 ∙ ap (λ l. record { shown = s.shown; labels = l }) again)

pub not_unbooked : (s t : State) (name : Name) (n : ℕ) (f : ScriptFault) → Lowest same_name s.labels name n → Calls s (Withdraw n) (Err f) t → UnbooksLabelled s name (Err f) t
not_unbooked s t name n NoForm l h = h
not_unbooked s t name n WrongState l h = let no = h.0 in cc
not_unbooked s t name n (Fabric e) l h = h
not_unbooked s t name n (Label e) l h = absurd h
not_unbooked s t name n (Plan e) l h = (n, l, h.1, h.2)
