-- Every plan that came by calls is good, and its bookings are those of its history.
use Rattle.std.proofs.Common.{◌≡◌, ℕ, Bool, true, false, cond, eqb, [], ◌∷◌, Some, None, Ok, Err, Option, sym, ap, ◌∙◌, subst}
use mathlib.Core.Path.{fun_ext}
use Rattle.std.proofs.lemmas.Bool.{both_ways, not-true}
use Rattle.planner.specs.declared.calls.Call.{Call}
use Rattle.planner.specs.declared.calls.Call.TheVariants.{Enrol, Admit, Withdraw, Replan, Start, Rest, Fit}
use Rattle.planner.specs.declared.flows.Flow.{Flow}
use Rattle.planner.specs.Histories.{History, Came, booked_by, bookings_of}
use Rattle.planner.specs.LinkSets.{share}
use Rattle.planner.specs.Shown.{Shown}
use Rattle.planner.specs.Slots.{taken, Earliest}
use Rattle.planner.specs.Steps.{Answer, Step, Books, Passes, admit_checks, enrol_checks, slot_check, valid_slots, in_state}
use Rattle.planner.proofs.Checks.{may_book, passes_first}
use Rattle.planner.proofs.Good.{Good, good_opened, good_booked, good_unbooked, good_replanned, good_fitted}
use Rattle.planner.proofs.Held.{taken_from}
use Rattle.planner.proofs.Parts.{with_parts, parts_are}

-- a slot that an overlapping flow holds is not valid
pub not_valid : (s : Shown) → Good s → (f : Flow) (k slot : ℕ) → share (s.meaning.crossed f.ends) (s.route k) ≡ true → s.holds k slot ≡ true → valid_slots s f slot ≡ true → ⊥
not_valid s good f k slot both held valid =
    let beside : ℕ → Bool = λ j. share (s.meaning.crossed f.ends) (s.route j) in
    both_ways (taken s.holds 64 beside slot) (not-true (taken s.holds 64 beside slot) valid)
    (taken_from s.holds 64 beside slot k (good.below k (good.owned k slot held)) both held)

module _ (s : Shown) (good : Good s) where
  good_enrolled : (n : ℕ) (f : Flow) (t : Shown) → Passes (enrol_checks s n f) → Books s n f t → ((slot : ℕ) → t.holds n slot ≡ false) → Good t
  good_enrolled n f t pass books waits =
      subst Good (parts_are s t _ _ books.frame books.booked books.route)
      (good_booked s good n f (may_book s.meaning s.period s.booked n f pass) t.holds books.holds
      (λ slot held. absurd (both_ways (t.holds n slot) (waits slot) held))
      (λ slot held. absurd (both_ways (t.holds n slot) (waits slot) held))
      (λ k slot both held _. both_ways (t.holds n slot) (waits slot) held))

  good_admitted : (n : ℕ) (f : Flow) (t : Shown) → Passes (admit_checks s n f) → Books s n f t → Earliest (valid_slots s f) (t.holds n) f.demand s.period → Good t
  good_admitted n f t pass books first =
      subst Good (parts_are s t _ _ books.frame books.booked books.route)
      (good_booked s good n f (may_book s.meaning s.period s.booked n f (passes_first (enrol_checks s n f) (slot_check s f ∷ []) pass)) t.holds books.holds
      first.inside
      (λ slot held. first.amount)
      (λ k slot both mine held. not_valid s good f k slot both held (first.valid slot mine)))

  good_state : (running : Bool) → Good (in_state running s)
  good_state running = record {
    keeps = good.keeps;
    below = good.below;
    routed = good.routed;
    routes = good.routes;
    owned = good.owned;
    within = good.within;
    exact = good.exact;
    apart = good.apart;
  }

  pub good_step : (c : Call) (a : Answer) (t : Shown) → Step s c a t → Good t
  good_step (Enrol n f) (Ok u) t st = good_enrolled n f t st.0 st.1 st.2
  good_step (Admit n f) (Ok u) t st = good_admitted n f t st.0 st.1 st.2
  good_step (Withdraw n) (Ok u) t st =
      let un = st.1 in
      subst Good (ap (λ h. with_parts s (λ k. cond (eqb k n) None (s.booked k)) (λ k link. cond (eqb k n) false (s.route k link)) h) (sym (fun_ext (λ k. fun_ext (un.holds k)))) ∙ parts_are s t _ _ un.frame un.booked un.route) (good_unbooked s good n)
  good_step Replan (Ok u) t st = subst Good (parts_are s t s.booked s.route st.frame st.booked st.route) (good_replanned s good t.holds st.placed)
  good_step Start (Ok u) t st = subst Good (sym st) (good_state true)
  good_step Rest (Ok u) t st = subst Good (sym st) (good_state false)
  good_step (Fit d) (Ok u) t st = subst Good (sym st) (good_fitted s good d)
  good_step (Enrol n f) (Err e) t st = subst Good (sym st.1) good
  good_step (Admit n f) (Err e) t st = subst Good (sym st.1) good
  good_step (Withdraw n) (Err e) t st = subst Good (sym st.1) good
  good_step Replan (Err e) t st = subst Good (sym st.1) good
  good_step Start (Err e) t st = absurd st
  good_step Rest (Err e) t st = absurd st
  good_step (Fit d) (Err e) t st = absurd st

pub good_came : (h : History) (s : Shown) → Came h s → Good s
good_came [] s came = good_opened s came
good_came (e ∷ h) t came = good_step came.0 (good_came h came.0 came.1) e.call e.answer t came.3

-- the bookings after a call
told_step : (s : Shown) (c : Call) (a : Answer) (t : Shown) (before : ℕ → Option Flow) → ((n : ℕ) → s.booked n ≡ before n) → Step s c a t → (n : ℕ) → t.booked n ≡ booked_by c a before n
told_step s (Enrol k f) (Ok u) t before told st n = st.1.booked n ∙ ap (λ o. cond (eqb n k) (Some f) o) (told n)
told_step s (Admit k f) (Ok u) t before told st n = st.1.booked n ∙ ap (λ o. cond (eqb n k) (Some f) o) (told n)
told_step s (Withdraw k) (Ok u) t before told st n = st.1.booked n ∙ ap (λ o. cond (eqb n k) None o) (told n)
told_step s Replan (Ok u) t before told st n = st.booked n ∙ told n
told_step s Start (Ok u) t before told st n = ap (λ (x : Shown). x.booked n) st ∙ told n
told_step s Rest (Ok u) t before told st n = ap (λ (x : Shown). x.booked n) st ∙ told n
told_step s (Fit d) (Ok u) t before told st n = ap (λ (x : Shown). x.booked n) st ∙ told n
told_step s (Enrol k f) (Err e) t before told st n = ap (λ (x : Shown). x.booked n) st.1 ∙ told n
told_step s (Admit k f) (Err e) t before told st n = ap (λ (x : Shown). x.booked n) st.1 ∙ told n
told_step s (Withdraw k) (Err e) t before told st n = ap (λ (x : Shown). x.booked n) st.1 ∙ told n
told_step s Replan (Err e) t before told st n = ap (λ (x : Shown). x.booked n) st.1 ∙ told n
told_step s Start (Err e) t before told st n = absurd st
told_step s Rest (Err e) t before told st n = absurd st
told_step s (Fit d) (Err e) t before told st n = absurd st

pub told_came : (h : History) (s : Shown) → Came h s → (n : ℕ) → s.booked n ≡ bookings_of h n
told_came [] s came n = came.none_booked n
told_came (e ∷ h) t came n = told_step came.0 e.call e.answer t (bookings_of h) (told_came h came.0 came.1) came.3 n
