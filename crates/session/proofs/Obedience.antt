-- Every booked flow has a label, and no other, after each command, by what the command does.
use Rattle.std.proofs.Common.{◌≡◌, ◌⊎◌, length, Ok, Err, sym, subst, inl, inr, refl, ap, arith}
use Rattle.planner.specs.declared.calls.Call.{Call}
use Rattle.planner.specs.declared.calls.Call.TheVariants as call
use Rattle.script.specs.declared.commands.Command.{Command}
use Rattle.script.specs.declared.commands.Command.TheVariants.{Enrol, Admit, Withdraw, Replan, Start, Rest, Show}
use Rattle.script.specs.declared.commands.Wanted.{Wanted}
use Rattle.labels.specs.declared.names.Name.{Name}
use Rattle.session.specs.Sessions.{Answer, BooksLabelled, Named, Obeyed, State, UnbooksLabelled, flow_of}
use Rattle.session.specs.declared.faults.ScriptFault.TheVariants.{NoForm, WrongState, Fabric, Label, Plan}
use Rattle.session.proofs.Naming.{booked_named, called_named, unbooked_named}

same_named : (s t : State) → t ≡ s → Named s → Named t
same_named s t e named = subst Named (sym e) named

books_named : (s t : State) (c : Call) (w : Wanted) (a : Answer) → (c ≡ call.Enrol w.number (flow_of w)) ⊎ (c ≡ call.Admit w.number (flow_of w))
    → BooksLabelled s c w a t → Named s → Named t
books_named s t c w (Ok x) books h named = booked_named s t c w books h.1 h.2 h.3 named
books_named s t c w (Err NoForm) books h named = absurd h
books_named s t c w (Err WrongState) books h named = same_named s t h.1 named
books_named s t c w (Err (Fabric e)) books h named = absurd h
books_named s t c w (Err (Label e)) books h named = same_named s t h.2 named
books_named s t c w (Err (Plan e)) books h named = same_named s t h.3 named

unbooks_named : (s t : State) (name : Name) (a : Answer) → UnbooksLabelled s name a t → length s.labels ≡ 64 → Named s → Named t
unbooks_named s t name (Ok x) h long named = unbooked_named s t h.0 long (let inside = h.1.0 in omega arith) h.2 h.3 named
unbooks_named s t name (Err NoForm) h long named = absurd h
unbooks_named s t name (Err WrongState) h long named = absurd h
unbooks_named s t name (Err (Fabric e)) h long named = absurd h
unbooks_named s t name (Err (Label e)) h long named = same_named s t h.1 named
unbooks_named s t name (Err (Plan e)) h long named = same_named s t h.3 named

pub obeyed_named : (s t : State) (c : Command) (a : Answer) → Obeyed s c a t → length s.labels ≡ 64 → Named s → Named t
obeyed_named s t (Enrol w) a h long named = books_named s t (call.Enrol w.number (flow_of w)) w a (inl refl) h named
obeyed_named s t (Admit w) a h long named = books_named s t (call.Admit w.number (flow_of w)) w a (inr refl) h named
obeyed_named s t (Withdraw name) a h long named = unbooks_named s t name a h long named
obeyed_named s t Replan a h long named = called_named s t call.Replan a (λ step. step.booked) h named
obeyed_named s t Start a h long named = called_named s t call.Start a (λ step k. ap (λ u. u.booked k) step) h named
obeyed_named s t Rest a h long named = called_named s t call.Rest a (λ step k. ap (λ u. u.booked k) step) h named
obeyed_named s t Show a h long named = absurd h
