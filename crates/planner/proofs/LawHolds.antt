-- The law of a plan.
use Rattle.std.proofs.Common.{◌≡◌, ℕ, ◌<◌, true, false, eqb, [], ◌∷◌, is_some, Some, None, Ok, Err, Option, sym, refl, ap, ◌∙◌, subst, ⊎_elim, arith}
use Rattle.std.proofs.lemmas.Bool.{false≢true, both_ways, cases_eq, cond-false}
use Rattle.planner.specs.declared.calls.Call.{Call}
use Rattle.planner.specs.declared.calls.Call.TheVariants.{Enrol, Admit, Withdraw, Replan, Start, Rest, Fit}
use Rattle.planner.specs.declared.flows.Flow.{Flow}
use Rattle.planner.specs.Bookings.{demand_of, route_on}
use Rattle.planner.specs.Histories.{History, Came, bookings_of}
use Rattle.planner.specs.Laws.{Carries, Sound, may_take, OfCall, LawStands}
use Rattle.planner.specs.Outcomes.{Made}
use Rattle.planner.specs.Shown.{Shown}
use Rattle.planner.specs.Steps.{Answer, Step, Books, Passes, enrol_checks, slot_check, allowed}
use Rattle.planner.proofs.Checks.{may_book, passes_first}
use Rattle.planner.proofs.Good.{Good, overlap_from}
use Rattle.planner.proofs.LawAdmits.{admits}
use Rattle.planner.proofs.LawReplans.{replanned}
use Rattle.planner.proofs.Reached.{good_came, told_came}
use Rattle.planner.proofs.Sharing.{share_from}

-- what is booked is some flow
booked_some : (o : Option Flow) → is_some o ≡ true → (f : Flow) × (o ≡ Some f)
booked_some None e = absurd (false≢true e)
booked_some (Some f) e = (f, refl)

module _ (h : History) (s : Shown) (came : Came h s) where
  good : Good s
  good = good_came h s came

  told : (n : ℕ) → s.booked n ≡ bookings_of h n
  told = told_came h s came

  -- the kept route of a carried flow crosses the link, which is below 256
  crosses : (n link slot : ℕ) → Carries h s n link slot → (s.route n link ≡ true) × (link < 256)
  crosses n link slot c = (
    good.routes n link ∙ ap (λ o. route_on s.meaning o link) (told n ∙ c.booked) ∙ c.crosses,
    let low = good.keeps.crosses_below c.flow.ends link c.crosses in let most = good.keeps.links_most in omega arith,
  )

  pub sound : Sound h s
  sound = record {
    never_two = λ n k link slot cn ck. ⊎_elim
        (λ e. e)
        (λ ne.
        let n_crosses = crosses n link slot cn in
        let k_crosses = crosses k link slot ck in
        absurd (good.apart n k slot (overlap_from s.route n k ne (share_from (s.route n) (s.route k) link n_crosses.1 n_crosses.0 k_crosses.0)) cn.holds ck.holds))
        (cases_eq n k);
    exact = λ n slot held.
        let some = booked_some (s.booked n) (good.owned n slot held) in
        (some.0, sym (told n) ∙ some.1, good.exact n slot held ∙ ap demand_of some.1, good.within n slot held);
    booked = told;
    routes = λ n link. good.routes n link ∙ ap (λ o. route_on s.meaning o link) (told n);
  }

-- a flow that is being booked held nothing
new_keeps : (s : Shown) → Good s → (k : ℕ) (f : Flow) (t : Shown) → Passes (enrol_checks s k f) → Books s k f t → (n slot : ℕ) → s.holds n slot ≡ true → t.holds n slot ≡ true
new_keeps s good k f t pass books n slot held = ⊎_elim
    (λ (e : n ≡ k).
    let free = (may_book s.meaning s.period s.booked k f pass).free in
    absurd (both_ways (is_some (s.booked k)) free (good.owned k slot (ap (λ j. s.holds j slot) (sym e) ∙ held))))
    (λ ne. books.holds n slot ne ∙ held)
    (cases_eq n k)

-- no call but a re-plan and its own withdrawal takes slots from a flow
keeps : (s : Shown) → Good s → (c : Call) (a : Answer) (t : Shown) → Step s c a t → (n slot : ℕ) → may_take c n ≡ false → s.holds n slot ≡ true → t.holds n slot ≡ true
keeps s fine (Enrol k f) (Ok u) t st n slot may held = new_keeps s fine k f t st.0 st.1 n slot held
keeps s fine (Admit k f) (Ok u) t st n slot may held = new_keeps s fine k f t (passes_first (enrol_checks s k f) (slot_check s f ∷ []) st.0) st.1 n slot held
keeps s fine (Withdraw k) (Ok u) t st n slot may held = st.1.holds n slot ∙ cond-false (eqb n k) false (s.holds n slot) may ∙ held
keeps s fine Replan (Ok u) t st n slot may held = absurd (false≢true (sym may))
keeps s fine Start (Ok u) t st n slot may held = ap (λ (x : Shown). x.holds n slot) st ∙ held
keeps s fine Rest (Ok u) t st n slot may held = ap (λ (x : Shown). x.holds n slot) st ∙ held
keeps s fine (Fit d) (Ok u) t st n slot may held = ap (λ (x : Shown). x.holds n slot) st ∙ held
keeps s fine (Enrol k f) (Err e) t st n slot may held = ap (λ (x : Shown). x.holds n slot) st.1 ∙ held
keeps s fine (Admit k f) (Err e) t st n slot may held = ap (λ (x : Shown). x.holds n slot) st.1 ∙ held
keeps s fine (Withdraw k) (Err e) t st n slot may held = ap (λ (x : Shown). x.holds n slot) st.1 ∙ held
keeps s fine Replan (Err e) t st n slot may held = ap (λ (x : Shown). x.holds n slot) st.1 ∙ held
keeps s fine Start (Err e) t st n slot may held = absurd st
keeps s fine Rest (Err e) t st n slot may held = absurd st
keeps s fine (Fit d) (Err e) t st n slot may held = absurd st

of_call : (h : History) (s : Shown) (c : Call) (a : Answer) (t : Shown) → Came h s → Step s c a t → OfCall h s c a t
of_call h s (Enrol n f) a t came st = tt
of_call h s (Admit n f) a t came st = admits h s n f a t came st
of_call h s (Withdraw n) a t came st = tt
of_call h s Replan a t came st = replanned h s a t came st
of_call h s Start a t came st = tt
of_call h s Rest a t came st = tt
of_call h s (Fit d) a t came st = tt

pub law_stands : LawStands
law_stands h s c a t came ok step = record {
  came = (s, came, ok, step);
  before = sound h s came;
  after = sound _ t (s, came, ok, step);
  keeps = keeps s (good_came h s came) c a t step;
  of_call = of_call h s c a t came step;
}

-- a call that is allowed and made by its rule; the rule may be told of an equal call
pub made : (s : Shown) (c d : Call) (a : Answer) (t : Shown) → c ≡ d → allowed s.running d ≡ true → Step s d a t → Made s c a t
made s c d a t same ok step = subst (λ x. Made s x a t) (sym same) (record { allows = ok; step = step; law = λ h came. law_stands h s d a t came ok step })
