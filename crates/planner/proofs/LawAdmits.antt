-- What the rule of an admission gives of the law.
use Rattle.std.proofs.Common.{◌≡◌, ℕ, ◌<◌, ◌≤◌, Bool, true, false, cond, [], ◌∷◌, Some, None, Ok, Err, Option, sym, refl, ap, ◌∙◌, subst, arith}
use mathlib.Core.Path.{fun_ext}
use Rattle.std.proofs.lemmas.Bool.{false≢true, and_parts, leb-true, leb-false, not-false}
use Rattle.planner.specs.declared.calls.Call.TheVariants.{Admit}
use Rattle.planner.specs.declared.flows.Flow.{Flow}
use Rattle.planner.specs.declared.plan_faults.PlanFault.{PlanFault}
use Rattle.planner.specs.Bookings.{route_on, valid_beside}
use Rattle.planner.specs.Histories.{History, Came, bookings_of}
use Rattle.planner.specs.Laws.{Taken, AllTaken, valid_after, Admits}
use Rattle.planner.specs.LinkSets.{share}
use Rattle.planner.specs.PlanFaults.{numbered}
use Rattle.planner.specs.Shown.{Shown}
use Rattle.planner.specs.Slots.{count, taken, Earliest}
use Rattle.planner.specs.Steps.{Answer, Step, first_failing, Passes, RefusedBy, booking_checks, enrol_checks, slot_check, admit_checks, valid_slots}
use Rattle.planner.proofs.Checks.{after_passing}
use Rattle.planner.proofs.Good.{Good}
use Rattle.planner.proofs.Held.{taken_gives}
use Rattle.planner.proofs.Reached.{good_came, told_came, not_valid}
use Rattle.planner.proofs.Sharing.{share_from, share_gives}
use Rattle.planner.proofs.Totals.{count_more}

-- a route that crosses a link is that of a booked flow
crossing_flow : (s : Shown) (o : Option Flow) (link : ℕ) → route_on s.meaning o link ≡ true → (g : Flow) × (o ≡ Some g) × (s.meaning.crossed g.ends link ≡ true)
crossing_flow s None link e = absurd (false≢true e)
crossing_flow s (Some g) link e = (g, refl, e)

-- the check for the slots, after those of a booking passed
slot_refused : (b : Bool) (k : ℕ) → cond b None (Some 14) ≡ Some k → (b ≡ false) × (k ≡ 14)
slot_refused true k e = let z : ◌≡◌ {A = ℕ} 0 1 = cc in absurd (omega arith)
slot_refused false k e = (refl, cc)

slot_passed : (b : Bool) → ◌≡◌ {A = Option ℕ} (cond b None (Some 14)) None → b ≡ true
slot_passed true e = refl
slot_passed false e = let z : ◌≡◌ {A = ℕ} 0 1 = cc in absurd (omega arith)

module _ (h : History) (s : Shown) (came : Came h s) (f : Flow) where
  good : Good s
  good = good_came h s came

  told : (n : ℕ) → s.booked n ≡ bookings_of h n
  told = told_came h s came

  -- a slot that is not valid is held by an overlapping flow
  holder : (choice : ℕ → Bool) (slot : ℕ) → choice slot ≡ true → valid_slots s f slot ≡ false → Taken h s f choice
  holder choice slot chosen out =
      let beside : ℕ → Bool = λ j. share (s.meaning.crossed f.ends) (s.route j) in
      let found = taken_gives s.holds 64 beside slot (not-false (taken s.holds 64 beside slot) out) in
      let k = found.0 in
      let parts = and_parts (beside k) (s.holds k slot) found.2 in
      let common = share_gives (s.meaning.crossed f.ends) (s.route k) parts.0 in
      let flow = crossing_flow s (s.booked k) common.0 (sym (good.routes k common.0) ∙ common.3) in
      record {
        slot = slot;
        chosen = chosen;
        holder = k;
        flow = flow.0;
        booked = sym (told k) ∙ flow.1;
        overlap = (common.0, (common.2, flow.2));
        holds = parts.1;
      }

  -- with too few valid slots every choice takes one that is not valid
  few_taken : count (valid_slots s f) s.period < f.demand → AllTaken h s f
  few_taken few choice is =
      let size = is.amount in
      let found = count_more choice (valid_slots s f) s.period (omega arith) in
      holder choice found.0 found.1 found.2

  -- a slot that is taken is not valid
  taken_out : (choice : ℕ → Bool) → Taken h s f choice → ((slot : ℕ) → choice slot ≡ true → valid_slots s f slot ≡ true) → ⊥
  taken_out choice t valid =
      let link = t.overlap.0 in
      let low : link < 256 = let l = good.keeps.crosses_below f.ends link t.overlap.1.0 in let most = good.keeps.links_most in omega arith in
      let route : s.route t.holder link ≡ true = good.routes t.holder link ∙ ap (λ o. route_on s.meaning o link) (told t.holder ∙ t.booked) ∙ t.overlap.1.1 in
      not_valid s good f t.holder t.slot (share_from (s.meaning.crossed f.ends) (s.route t.holder) link low t.overlap.1.0 route) t.holds (valid t.slot t.chosen)

  module _ (n : ℕ) (pass : Passes (booking_checks s.meaning s.period (bookings_of h) n f)) where
    passed : Passes (enrol_checks s n f)
    passed = subst (λ b. Passes (booking_checks s.meaning s.period b n f)) (sym (fun_ext told)) pass

    slots : first_failing (admit_checks s n f) ≡ cond (slot_check s f).1 None (Some 14)
    slots = after_passing (enrol_checks s n f) (slot_check s f ∷ []) passed

    refused : (e : PlanFault) → RefusedBy (admit_checks s n f) e → (count (valid_slots s f) s.period < f.demand) × (numbered e ≡ (14, []))
    refused e r =
        let why = slot_refused (slot_check s f).1 r.0 (sym slots ∙ r.1) in
        (leb-false f.demand (count (valid_slots s f) s.period) why.0, r.2 ∙ ap (λ k. (k, [])) why.1)

    accepted : Passes (admit_checks s n f) → f.demand ≤ count (valid_slots s f) s.period
    accepted all = leb-true f.demand (count (valid_slots s f) s.period) (slot_passed (slot_check s f).1 (sym slots ∙ all))

  same_valid : valid_slots s f ≡ valid_after h s f
  same_valid = ap (λ r. valid_beside s.holds r (s.meaning.crossed f.ends)) (fun_ext (λ k. fun_ext (λ link. good.routes k link ∙ ap (λ o. route_on s.meaning o link) (told k))))

pub admits : (h : History) (s : Shown) (n : ℕ) (f : Flow) (a : Answer) (t : Shown) → Came h s → Step s (Admit n f) a t → Admits h s n f a t
admits h s n f (Ok u) t came st = record {
  others = st.1.holds;
  refused = λ pass r. let e = r.1 in let z : ◌≡◌ {A = ℕ} 0 1 = cc in absurd (omega arith);
  refuses = λ pass all.
      absurd (taken_out h s came f (t.holds n) (all (t.holds n) (record { amount = st.2.amount; inside = st.2.inside })) st.2.valid);
  earliest = λ e. subst (λ p. Earliest p (t.holds n) f.demand s.period) (same_valid h s came f) st.2;
}
admits h s n f (Err e) t came st = record {
  others = λ k slot ne. ap (λ (x : Shown). x.holds k slot) st.1;
  refused = λ pass r. few_taken h s came f (refused h s came f n pass e st.0).0;
  refuses = λ pass all. (e, refl, (refused h s came f n pass e st.0).1);
  earliest = λ q. let z : ◌≡◌ {A = ℕ} 0 1 = cc in absurd (omega arith);
}
