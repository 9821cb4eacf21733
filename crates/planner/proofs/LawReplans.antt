-- What the rule of a re-plan gives of the law.
use Rattle.std.proofs.Common.{◌≡◌, ℕ, ◌<◌, Bool, true, List, [], ◌∷◌, is_some, Ok, Err, sym, refl, ap, ◌∙◌, subst, inl, inr, arith}
use mathlib.Core.Path.{fun_ext}
use Rattle.planner.specs.declared.calls.Call.TheVariants.{Replan}
use Rattle.planner.specs.declared.plan_faults.PlanFault.{PlanFault}
use Rattle.planner.specs.Bookings.{route_on}
use Rattle.planner.specs.FlowSets.{bit}
use Rattle.planner.specs.Histories.{History, Came, bookings_of}
use Rattle.planner.specs.Laws.{routes_of, booked_flows, load_of_history, Refusal, Replanned}
use Rattle.planner.specs.Orders.{Remains}
use Rattle.planner.specs.PlanFaults.{numbered}
use Rattle.planner.specs.Placements.{PlacedInOrder, Unplaceable, Unplanned}
use Rattle.planner.specs.Shown.{Shown}
use Rattle.planner.specs.Slots.{total, Load}
use Rattle.planner.specs.Steps.{Answer, Step, load_shown, flows_of}
use Rattle.planner.proofs.Reached.{good_came, told_came}
use Rattle.planner.proofs.SameLoad.{rebooked}

-- what holds of the load that the plan shows holds of that of its history
by_history : (h : History) (s : Shown) → Came h s → (P : Load → (ℕ → Bool) → Type 0) → P (load_shown s) (flows_of s) → P (load_of_history h s) (booked_flows h)
by_history h s came P told =
    let same_b : s.booked ≡ bookings_of h = fun_ext (told_came h s came) in
    let same_r : s.route ≡ routes_of h s = fun_ext (λ n. fun_ext (λ link. (good_came h s came).routes n link ∙ ap (λ o. route_on s.meaning o link) (told_came h s came n))) in
    rebooked s.period s.booked (bookings_of h) s.route (routes_of h s) same_b same_r (λ load. P load (booked_flows h))
    (subst (λ b. P (load_shown s) (λ n. is_some (b n))) same_b told)

-- a refusal is of one number, with one group
pub same_refusal : (e : PlanFault) (n k : ℕ) (xs ys : List ℕ) → Refusal (Err e) n xs → numbered e ≡ (k, ys) → (n ≡ k) × (xs ≡ ys)
same_refusal e n k xs ys (g, same, is) told =
    let fault : e ≡ g = cc in
    let both : (n, xs) ≡ (k, ys) = sym is ∙ ap numbered (sym fault) ∙ told in
    (ap (λ (p : ℕ × List ℕ). p.0) both, ap (λ (p : ℕ × List ℕ). p.1) both)

module _ (h : History) (s : Shown) (e : PlanFault) (t : Shown) where
  abbrev load : Load
  load = load_of_history h s

  abbrev flows : ℕ → Bool
  flows = booked_flows h

  sixteen : (group : ℕ) → numbered e ≡ (16, group ∷ []) → Remains load.overlap flows (bit group) → Replanned h s (Err e) t
  sixteen group is remains = record {
    no_order = λ g r. remains.no_order;
    order_refused = λ none. (group, (e, refl, is));
    no_placing = λ g r. absurd (let w = (same_refusal e 17 16 (g ∷ []) (group ∷ []) r is).0 in omega arith);
    placing_refused = λ order is_order. absurd (remains.no_order order is_order);
    named = λ g r. absurd (let w = (same_refusal e 17 16 (g ∷ []) (group ∷ []) r is).0 in omega arith);
    named_overlap = λ g r. absurd (let w = (same_refusal e 17 16 (g ∷ []) (group ∷ []) r is).0 in omega arith);
    named_exceed = λ g r. absurd (let w = (same_refusal e 17 16 (g ∷ []) (group ∷ []) r is).0 in omega arith);
    placed = λ q. let z : ◌≡◌ {A = ℕ} 0 1 = cc in absurd (omega arith);
  }

  same_group : (g group : ℕ) → Refusal (Err e) 17 (g ∷ []) → numbered e ≡ (17, group ∷ []) → group ≡ g
  same_group g group r is = let w = (same_refusal e 17 17 (g ∷ []) (group ∷ []) r is).1 in cc

  seventeen : (group : ℕ) → numbered e ≡ (17, group ∷ []) → Unplaceable load flows (bit group) → Replanned h s (Err e) t
  seventeen group is so = record {
    no_order = λ g r. absurd (let w = (same_refusal e 16 17 (g ∷ []) (group ∷ []) r is).0 in omega arith);
    order_refused = λ none. absurd (none so.chosen so.order);
    no_placing = λ g r. so.crowded.none;
    placing_refused = λ order is_order none. (group, (e, refl, is));
    named = λ g r. subst (λ x. (n : ℕ) → bit x n ≡ true → flows n ≡ true) (same_group g group r is) so.crowded.within;
    named_overlap = λ g r. subst (λ x. (f k : ℕ) → bit x f ≡ true → bit x k ≡ true → (f ≡ k → ⊥) → load.overlap f k ≡ true) (same_group g group r is) so.crowded.all_overlap;
    named_exceed = λ g r. subst (λ x. s.period < total load.demand (bit x) 64) (same_group g group r is) so.crowded.too_much;
    placed = λ q. let z : ◌≡◌ {A = ℕ} 0 1 = cc in absurd (omega arith);
  }

  refused : Unplanned load flows e → Replanned h s (Err e) t
  refused (group, inl why) = sixteen group why.0 why.1
  refused (group, inr why) = seventeen group why.0 why.1

never_refused : (n : ℕ) (xs : List ℕ) → Refusal (Ok tt) n xs → ⊥
never_refused n xs r = let e = r.1 in let z : ◌≡◌ {A = ℕ} 0 1 = cc in omega arith

pub replanned : (h : History) (s : Shown) (a : Answer) (t : Shown) → Came h s → Step s Replan a t → Replanned h s a t
replanned h s (Ok tt) t came st =
    let so = by_history h s came (λ load p. PlacedInOrder load p t.holds) st.placed in
    record {
      no_order = λ g r. absurd (never_refused 16 (g ∷ []) r);
      order_refused = λ none. absurd (none so.chosen so.order);
      no_placing = λ g r. absurd (never_refused 17 (g ∷ []) r);
      placing_refused = λ order is none. absurd (none t.holds so.fits.placing);
      named = λ g r. absurd (never_refused 17 (g ∷ []) r);
      named_overlap = λ g r. absurd (never_refused 17 (g ∷ []) r);
      named_exceed = λ g r. absurd (never_refused 17 (g ∷ []) r);
      placed = λ q. so.fits.placing;
    }
replanned h s (Err e) t came st = refused h s e t (by_history h s came (λ load p. Unplanned load p e) st.0)
