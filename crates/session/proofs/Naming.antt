-- Every booked flow has a label, and no other, after each call.
use Rattle.std.proofs.Common.{◌≡◌, ℕ, zero, suc, ◌<◌, ◌⊎◌, cond, eqb, length, replicate, get_or, set, is_some, Some, None, Ok, Err, Option, sym, refl, ap, ◌∙◌, subst, ⊎_elim, arith, get_or-set_other, get_or-set_same}
use Rattle.std.proofs.lemmas.Bool.{eq-eqb, ne_eqb, cases_eq}
use Rattle.labels.specs.Faults.{AllHold}
use Rattle.labels.specs.declared.names.Name.{Name}
use Rattle.planner.specs.Shown.{Opened, Shown}
use Rattle.planner.specs.Steps.{Books, Step}
use Rattle.planner.specs.declared.calls.Call.{Call}
use Rattle.planner.specs.declared.calls.Call.TheVariants.{Enrol, Admit, Withdraw}
use Rattle.planner.specs.declared.flows.Flow.{Flow}
use Rattle.script.specs.declared.commands.Wanted.{Wanted}
use Rattle.session.specs.Output.{unlabelled}
use Rattle.session.specs.Sessions.{Answer, Calls, Named, State, flow_of, label_checks}
use Rattle.session.specs.declared.faults.ScriptFault.{ScriptFault}
use Rattle.session.specs.declared.faults.ScriptFault.TheVariants.{NoForm, WrongState, Fabric, Label, Plan}

none_there : (m n : ℕ) → get_or {A = Option Name} (replicate m None) n None ≡ None
none_there zero n = refl
none_there (suc m) zero = refl
none_there (suc m) (suc n) = none_there m n

-- one entry and one booking change alike
named_set : (s t : State) (n : ℕ) (v : Option Name) (w : Option Flow)
    → n < length s.labels → t.labels ≡ set s.labels n v → ((k : ℕ) → t.shown.booked k ≡ cond (eqb k n) w (s.shown.booked k)) → is_some v ≡ is_some w
    → Named s → Named t
named_set s t n v w inside a b e h k =
    ⊎_elim
    (λ (same : k ≡ n). ap (λ l. is_some (get_or l k None)) a ∙ ap (λ i. is_some (get_or (set s.labels n v) i None)) same ∙ ap is_some (get_or-set_same s.labels n v None inside) ∙ e ∙ sym (ap is_some (b k ∙ ap (λ c. cond c w (s.shown.booked k)) (eq-eqb k n same))))
    (λ (other : k ≡ n → ⊥). ap (λ l. is_some (get_or l k None)) a ∙ ap is_some (get_or-set_other s.labels n k v None other) ∙ h k ∙ sym (ap is_some (b k ∙ ap (λ c. cond c w (s.shown.booked k)) (ne_eqb k n other))))
    (cases_eq k n)

pub kept_named : (s t : State) → t.labels ≡ s.labels → ((k : ℕ) → t.shown.booked k ≡ s.shown.booked k) → Named s → Named t
kept_named s t l b h k = ap (λ u. is_some (get_or u k None)) l ∙ h k ∙ sym (ap is_some (b k))

-- the flow is booked and its label bound
pub booked_named : (s t : State) (c : Call) (w : Wanted) → (c ≡ Enrol w.number (flow_of w)) ⊎ (c ≡ Admit w.number (flow_of w))
    → AllHold (label_checks s w) → Step s.shown c (Ok tt) t.shown → t.labels ≡ set s.labels w.number (Some w.name)
    → Named s → Named t
booked_named s t c w books all step l =
    let of_enrol = λ (e : c ≡ Enrol w.number (flow_of w)). (subst (λ d. Step s.shown d (Ok tt) t.shown) e step).1 in
    let of_admit = λ (e : c ≡ Admit w.number (flow_of w)). (subst (λ d. Step s.shown d (Ok tt) t.shown) e step).1 in
    let now : Books s.shown w.number (flow_of w) t.shown = ⊎_elim of_enrol of_admit books in
    let inside : w.number < length s.labels = let long = all.0 in let below = all.1.0 in omega arith in
    named_set s t w.number (Some w.name) (Some (flow_of w)) inside l now.booked refl

-- the booking is ended and its label unbound
pub unbooked_named : (s t : State) (n : ℕ) → length s.labels ≡ 64 → n < 64 → Step s.shown (Withdraw n) (Ok tt) t.shown → t.labels ≡ set s.labels n None → Named s → Named t
unbooked_named s t n long below step l = named_set s t n None None (omega arith) l step.1.booked refl

pub refused_same : (s t : State) (c : Call) (f : ScriptFault) → Calls s c (Err f) t → t ≡ s
refused_same s t c NoForm h = absurd h
refused_same s t c WrongState h = h.1
refused_same s t c (Fabric e) h = absurd h
refused_same s t c (Label e) h = absurd h
refused_same s t c (Plan e) h = h.2

pub refused_named : (s t : State) (c : Call) (f : ScriptFault) → Calls s c (Err f) t → Named s → Named t
refused_named s t c f h named n =
    let same = refused_same s t c f h in
    ap (λ u. is_some (get_or u.labels n None)) same ∙ named n ∙ sym (ap (λ u. is_some (u.shown.booked n)) same)

pub called_named : (s t : State) (c : Call) (a : Answer) → (Step s.shown c (Ok tt) t.shown → (k : ℕ) → t.shown.booked k ≡ s.shown.booked k)
    → Calls s c a t → Named s → Named t
called_named s t c (Ok x) keeps h = kept_named s t h.2 (keeps h.1)
called_named s t c (Err f) keeps h = refused_named s t c f h

-- a plan that was just opened has no booked flow, as no flow has a label
pub opened_named : (s : Shown) → Opened s → Named (record { shown = s; labels = unlabelled })
opened_named s o n = ap is_some (none_there 64 n) ∙ sym (ap is_some (o.none_booked n))
