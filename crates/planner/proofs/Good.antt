-- What is true of every plan that came by calls.
use Rattle.std.proofs.Common.{◌≡◌, ℕ, ◌<◌, Bool, true, false, cond, not, eqb, is_some, Some, None, Option, sym, refl, ap, ◌∙◌, subst, ⊎_elim, arith}
use mathlib.Core.Path.{fun_ext}
use Rattle.std.proofs.lemmas.Bool.{false≢true, both_ways, and_parts, and_from, not_from_false, not-true, eq-eqb, eqb-false, ne_eqb, cases_eq, cond-true, cond-false}
use Rattle.fabric.specs.Meaning.{KeepsRoutes}
use Rattle.fabric.specs.Spurs.{spurred, SpurLaws}
use Rattle.fabric.specs.declared.modules.Module.{Module}
use Rattle.fabric.specs.SpurLaws.{spurred_keeps, spur_laws}
use Rattle.planner.specs.declared.flows.Flow.{Flow}
use Rattle.planner.specs.Bookings.{demand_of, route_on, overlap_of, overlap_mutual}
use Rattle.planner.specs.LinkSets.{share}
use Rattle.planner.specs.Placements.{PlacedInOrder}
use Rattle.planner.specs.Shown.{Shown, Opened}
use Rattle.planner.specs.Slots.{count}
use Rattle.planner.specs.Steps.{load_shown, flows_of, over}
use Rattle.planner.proofs.Checks.{MayBook}
use Rattle.planner.proofs.Parts.{with_parts}
use Rattle.planner.proofs.Replanning.{placed_owned, placed_within}

pub record Good (s : Shown) : Type 0 where
  pub keeps : KeepsRoutes s.meaning
  pub below : (n : ℕ) → is_some (s.booked n) ≡ true → n < 64
  pub routed : (n : ℕ) (f : Flow) → s.booked n ≡ Some f → s.meaning.routed f.ends ≡ true
  pub routes : (n link : ℕ) → s.route n link ≡ route_on s.meaning (s.booked n) link
  pub owned : (n slot : ℕ) → s.holds n slot ≡ true → is_some (s.booked n) ≡ true
  pub within : (n slot : ℕ) → s.holds n slot ≡ true → slot < s.period
  pub exact : (n slot : ℕ) → s.holds n slot ≡ true → count (s.holds n) s.period ≡ demand_of (s.booked n)
  pub apart : (n k slot : ℕ) → overlap_of s.route n k ≡ true → s.holds n slot ≡ true → s.holds k slot ≡ true → ⊥

none_some : (o : Option Flow) (f : Flow) → o ≡ None → o ≡ Some f → ⊥
none_some o f none some = let z : ◌≡◌ {A = ℕ} 0 1 = cc in omega arith

pub good_opened : (s : Shown) → Opened s → Good s
good_opened s o = record {
  keeps = o.keeps;
  below = λ n e. absurd (both_ways (is_some (s.booked n)) (ap is_some (o.none_booked n)) e);
  routed = λ n f e. absurd (none_some (s.booked n) f (o.none_booked n) e);
  routes = λ n link. o.no_route n link ∙ sym (ap (λ b. route_on s.meaning b link) (o.none_booked n));
  owned = λ n slot held. absurd (both_ways (s.holds n slot) (o.none_held n slot) held);
  within = λ n slot held. absurd (both_ways (s.holds n slot) (o.none_held n slot) held);
  exact = λ n slot held. absurd (both_ways (s.holds n slot) (o.none_held n slot) held);
  apart = λ n k slot ov held _. both_ways (s.holds n slot) (o.none_held n slot) held;
}

-- what overlaps is two flows
pub overlap_parts : (route : ℕ → ℕ → Bool) (n k : ℕ) → overlap_of route n k ≡ true → (n ≡ k → ⊥) × (share (route n) (route k) ≡ true)
overlap_parts route n k ov =
    let parts = and_parts (not (eqb n k)) (share (route n) (route k)) ov in
    (eqb-false n k (not-true (eqb n k) parts.0), parts.1)

pub overlap_from : (route : ℕ → ℕ → Bool) (n k : ℕ) → (n ≡ k → ⊥) → share (route n) (route k) ≡ true → overlap_of route n k ≡ true
overlap_from route n k ne both = and_from (not (eqb n k)) (share (route n) (route k)) (not_from_false (eqb n k) (ne_eqb n k ne)) both

-- a flow is booked under n: the slots u are as before but for its own
module _ (s : Shown) (good : Good s) (n : ℕ) (f : Flow) (may : MayBook s.meaning s.period s.booked n f) (u : ℕ → ℕ → Bool)
    (others : (k slot : ℕ) → (k ≡ n → ⊥) → u k slot ≡ s.holds k slot)
    (inside : (slot : ℕ) → u n slot ≡ true → slot < s.period)
    (amount : (slot : ℕ) → u n slot ≡ true → count (u n) s.period ≡ f.demand)
    (valid : (k slot : ℕ) → share (s.meaning.crossed f.ends) (s.route k) ≡ true → u n slot ≡ true → s.holds k slot ≡ true → ⊥) where
  abbrev now_booked : ℕ → Option Flow
  now_booked k = cond (eqb k n) (Some f) (s.booked k)

  abbrev now_route : ℕ → ℕ → Bool
  now_route k link = cond (eqb k n) (s.meaning.crossed f.ends link) (s.route k link)

  booked_here : (k : ℕ) → k ≡ n → now_booked k ≡ Some f
  booked_here k e = cond-true (eqb k n) (Some f) (s.booked k) (eq-eqb k n e)

  booked_other : (k : ℕ) → (k ≡ n → ⊥) → now_booked k ≡ s.booked k
  booked_other k ne = cond-false (eqb k n) (Some f) (s.booked k) (ne_eqb k n ne)

  route_here : (k : ℕ) → k ≡ n → now_route k ≡ s.meaning.crossed f.ends
  route_here k e = fun_ext (λ link. cond-true (eqb k n) (s.meaning.crossed f.ends link) (s.route k link) (eq-eqb k n e))

  route_other : (k : ℕ) → (k ≡ n → ⊥) → now_route k ≡ s.route k
  route_other k ne = fun_ext (λ link. cond-false (eqb k n) (s.meaning.crossed f.ends link) (s.route k link) (ne_eqb k n ne))

  was_held : (k slot : ℕ) → (k ≡ n → ⊥) → u k slot ≡ true → s.holds k slot ≡ true
  was_held k slot ne held = sym (others k slot ne) ∙ held

  here_apart : (i k slot : ℕ) → i ≡ n → overlap_of now_route i k ≡ true → u i slot ≡ true → u k slot ≡ true → ⊥
  here_apart i k slot e ov hi hk =
      let parts = overlap_parts now_route i k ov in
      let ne : k ≡ n → ⊥ = λ e_k. parts.0 (e ∙ sym e_k) in
      let both : share (s.meaning.crossed f.ends) (s.route k) ≡ true =
      sym (ap (λ q. share q (s.route k)) (route_here i e)) ∙ sym (ap (λ q. share (now_route i) q) (route_other k ne)) ∙ parts.1 in
      valid k slot both (ap (λ j. u j slot) (sym e) ∙ hi) (was_held k slot ne hk)

  pub good_booked : Good (with_parts s now_booked now_route u)
  good_booked = record {
    keeps = good.keeps;
    below = λ k e. ⊎_elim
        (λ (here : k ≡ n). let low = may.number in omega arith)
        (λ ne. good.below k (ap is_some (sym (booked_other k ne)) ∙ e))
        (cases_eq k n);
    routed = λ k g e. ⊎_elim
        (λ (here : k ≡ n). let both : Some f ≡ Some g = sym (booked_here k here) ∙ e in let same : f ≡ g = cc in subst (λ (x : Flow). s.meaning.routed x.ends ≡ true) same may.routed)
        (λ ne. good.routed k g (sym (booked_other k ne) ∙ e))
        (cases_eq k n);
    routes = λ k link. ⊎_elim
        (λ (here : k ≡ n). ap (λ r. r link) (route_here k here) ∙ sym (ap (λ b. route_on s.meaning b link) (booked_here k here)))
        (λ ne. ap (λ r. r link) (route_other k ne) ∙ good.routes k link ∙ sym (ap (λ b. route_on s.meaning b link) (booked_other k ne)))
        (cases_eq k n);
    owned = λ k slot held. ⊎_elim
        (λ (here : k ≡ n). ap is_some (booked_here k here))
        (λ ne. ap is_some (booked_other k ne) ∙ good.owned k slot (was_held k slot ne held))
        (cases_eq k n);
    within = λ k slot held. ⊎_elim
        (λ (here : k ≡ n). inside slot (ap (λ j. u j slot) (sym here) ∙ held))
        (λ ne. good.within k slot (was_held k slot ne held))
        (cases_eq k n);
    exact = λ k slot held. ⊎_elim
        (λ (here : k ≡ n). ap (λ j. count (u j) s.period) here ∙ amount slot (ap (λ j. u j slot) (sym here) ∙ held) ∙ sym (ap demand_of (booked_here k here)))
        (λ ne. ap (λ r. count r s.period) (fun_ext (λ x. others k x ne)) ∙ good.exact k slot (was_held k slot ne held) ∙ sym (ap demand_of (booked_other k ne)))
        (cases_eq k n);
    apart = λ i k slot ov hi hk. ⊎_elim
        (λ (e : i ≡ n). here_apart i k slot e ov hi hk)
        (λ ne_i. ⊎_elim
        (λ (e : k ≡ n). here_apart k i slot e (overlap_mutual now_route k i ∙ ov) hk hi)
        (λ ne_k.
        let parts = overlap_parts now_route i k ov in
        let both : share (s.route i) (s.route k) ≡ true = sym (ap (λ q. share q (s.route k)) (route_other i ne_i)) ∙ sym (ap (λ q. share (now_route i) q) (route_other k ne_k)) ∙ parts.1 in
        good.apart i k slot (overlap_from s.route i k parts.0 both) (was_held i slot ne_i hi) (was_held k slot ne_k hk))
        (cases_eq k n))
        (cases_eq i n);
  }

-- the booking under n ends
module _ (s : Shown) (good : Good s) (n : ℕ) where
  abbrev then_booked : ℕ → Option Flow
  then_booked k = cond (eqb k n) None (s.booked k)

  abbrev then_route : ℕ → ℕ → Bool
  then_route k link = cond (eqb k n) false (s.route k link)

  abbrev then_holds : ℕ → ℕ → Bool
  then_holds k slot = cond (eqb k n) false (s.holds k slot)

  -- what is still held is another flow's, and was held
  still : (k slot : ℕ) → then_holds k slot ≡ true → (k ≡ n → ⊥) × (s.holds k slot ≡ true)
  still k slot held =
      ⊎_elim
      (λ (e : k ≡ n). absurd (false≢true (sym (cond-true (eqb k n) false (s.holds k slot) (eq-eqb k n e)) ∙ held)))
      (λ ne. (ne, sym (cond-false (eqb k n) false (s.holds k slot) (ne_eqb k n ne)) ∙ held))
      (cases_eq k n)

  other_booked : (k : ℕ) → (k ≡ n → ⊥) → then_booked k ≡ s.booked k
  other_booked k ne = cond-false (eqb k n) None (s.booked k) (ne_eqb k n ne)

  other_route : (k : ℕ) → (k ≡ n → ⊥) → then_route k ≡ s.route k
  other_route k ne = fun_ext (λ link. cond-false (eqb k n) false (s.route k link) (ne_eqb k n ne))

  gone : (k : ℕ) → k ≡ n → then_booked k ≡ None
  gone k e = cond-true (eqb k n) None (s.booked k) (eq-eqb k n e)

  pub good_unbooked : Good (with_parts s then_booked then_route then_holds)
  good_unbooked = record {
    keeps = good.keeps;
    below = λ k e. ⊎_elim
        (λ (here : k ≡ n). absurd (both_ways (is_some (then_booked k)) (ap is_some (gone k here)) e))
        (λ ne. good.below k (ap is_some (sym (other_booked k ne)) ∙ e))
        (cases_eq k n);
    routed = λ k g e. ⊎_elim
        (λ (here : k ≡ n). absurd (none_some (then_booked k) g (gone k here) e))
        (λ ne. good.routed k g (sym (other_booked k ne) ∙ e))
        (cases_eq k n);
    routes = λ k link. ⊎_elim
        (λ (here : k ≡ n). cond-true (eqb k n) false (s.route k link) (eq-eqb k n here) ∙ sym (ap (λ b. route_on s.meaning b link) (gone k here)))
        (λ ne. ap (λ r. r link) (other_route k ne) ∙ good.routes k link ∙ sym (ap (λ b. route_on s.meaning b link) (other_booked k ne)))
        (cases_eq k n);
    owned = λ k slot held. let was = still k slot held in ap is_some (other_booked k was.0) ∙ good.owned k slot was.1;
    within = λ k slot held. good.within k slot (still k slot held).1;
    exact = λ k slot held.
        let was = still k slot held in
        ap (λ r. count r s.period) (fun_ext (λ x. cond-false (eqb k n) false (s.holds k x) (ne_eqb k n was.0))) ∙ good.exact k slot was.1 ∙ sym (ap demand_of (other_booked k was.0));
    apart = λ i k slot ov hi hk.
        let was_i = still i slot hi in
        let was_k = still k slot hk in
        let parts = overlap_parts then_route i k ov in
        let both : share (s.route i) (s.route k) ≡ true = sym (ap (λ q. share q (s.route k)) (other_route i was_i.0)) ∙ sym (ap (λ q. share (then_route i) q) (other_route k was_k.0)) ∙ parts.1 in
        good.apart i k slot (overlap_from s.route i k parts.0 both) was_i.1 was_k.1;
  }

-- the flows are placed anew
pub good_replanned : (s : Shown) → Good s → (u : ℕ → ℕ → Bool) → PlacedInOrder (load_shown s) (flows_of s) u → Good (with_parts s s.booked s.route u)
good_replanned s good u placed =
    let mine = placed_owned (load_shown s) (flows_of s) u placed in
    let placing = placed.fits.placing in
    record {
      keeps = good.keeps;
      below = good.below;
      routed = good.routed;
      routes = good.routes;
      owned = mine;
      within = placed_within (load_shown s) (flows_of s) u placed;
      exact = λ n slot held. placing.amount n (mine n slot held);
      apart = λ n k slot ov hn hk. placing.apart n k slot (mine n slot hn) (mine k slot hk) (overlap_parts s.route n k ov).0 ov hn hk;
    }

-- a module is put on the fabric: the routes of the booked flows stay
pub good_fitted : (s : Shown) → Good s → (d : Module) → Good (over (spurred s.meaning d) s)
good_fitted s good d = record {
  keeps = spurred_keeps s.meaning good.keeps d;
  below = good.below;
  routed = λ n f e. let r = good.routed n f e in laws.stays_routed f.ends (good.keeps.source_below f.ends r) (good.keeps.destination_below f.ends r) ∙ r;
  routes = λ n link. good.routes n link ∙ sym (stays n link (s.booked n) refl);
  owned = good.owned;
  within = good.within;
  exact = good.exact;
  apart = good.apart;
}
  where
    laws : SpurLaws s.meaning d
    laws = spur_laws s.meaning good.keeps d

    stays : (n link : ℕ) (o : Option Flow) → s.booked n ≡ o → route_on (spurred s.meaning d) o link ≡ route_on s.meaning o link
    stays n link None e = refl
    stays n link (Some f) e = let r = good.routed n f e in laws.stays_crossed f.ends (good.keeps.source_below f.ends r) (good.keeps.destination_below f.ends r) link
