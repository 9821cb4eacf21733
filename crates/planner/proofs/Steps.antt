-- One flow after those before it.
use Rattle.std.proofs.Common.{◌≡◌, ℕ, ◌+◌, ◌<◌, Bool, true, false, eqb, List, [], ◌∷◌, sym, refl, ◌∙◌, subst, ⊎_elim, arith}
use Rattle.std.proofs.lemmas.Bool.{both_ways, not-true, eqb-true, and_parts, and_from, or_cases, or_left}
use Rattle.planner.specs.Orders.{Within, Below, plus, AllOverlap, has, Orderly}
use Rattle.planner.specs.Slots.{total, count, taken, Load, Placing, Earliest, rivals, valid_for, Greedy, StepsStand}
use Rattle.planner.proofs.Sets.{has_front, has_later, has_cases}
use Rattle.planner.proofs.Totals.{total_or, total_one, count_not}
use Rattle.planner.proofs.Held.{taken_from, held, held_le}

pub below_rest : (n f : ℕ) (es : List ℕ) → Below n (has (f ∷ es)) → Below n (has es)
below_rest n f es b g h = b g (has_later f es g h)

module _ (load : Load) (t : ℕ → ℕ → Bool) where
  -- a flow in valid slots shares none with the earlier flows that overlap it
  new_apart : (f : ℕ) (es : List ℕ) → Below load.flows (has es) → Earliest (valid_for load t f es) (t f) (load.demand f) load.period →
      (g s : ℕ) → has es g ≡ true → load.overlap f g ≡ true → t f s ≡ true → t g s ≡ true → ⊥
  new_apart f es b new g s in' over mine its =
      both_ways (taken t load.flows (rivals load f es) s)
      (not-true (taken t load.flows (rivals load f es) s) (new.valid s mine))
      (taken_from t load.flows (rivals load f es) s g (b g in') (and_from (has es g) (load.overlap f g) in' over) its)

  -- the greedy makes a placing of what it has placed
  pub greedy_places : (xs : List ℕ) → Below load.flows (has xs) → Greedy load t xs → Placing load (has xs) t
  greedy_places [] b made = record {
    amount = λ f e. absurd (both_ways false refl e);
    inside = λ f s e. absurd (both_ways false refl e);
    apart = λ f g s e. absurd (both_ways false refl e);
  }
  greedy_places (x ∷ es) b made =
      let new = made.0 in
      let below = below_rest load.flows x es b in
      let old = greedy_places es below made.1 in
      record {
        amount = λ f h. ⊎_elim (λ (e : f ≡ x). subst (λ y. count (t y) load.period ≡ load.demand y) (sym e) new.amount) (old.amount f) (has_cases x es f h);
        inside = λ f s h held. ⊎_elim (λ (e : f ≡ x). new.inside s (subst (λ y. t y s ≡ true) e held)) (λ h. old.inside f s h held) (has_cases x es f h);
        apart = λ f g s hf hg ne over tf tg.
            ⊎_elim
            (λ (ef : f ≡ x). ⊎_elim
            (λ (eg : g ≡ x). ne (ef ∙ sym eg))
            (λ inside_g. new_apart x es below new g s inside_g (subst (λ y. load.overlap y g ≡ true) ef over) (subst (λ y. t y s ≡ true) ef tf) tg)
            (has_cases x es g hg))
            (λ inside_f. ⊎_elim
            (λ (eg : g ≡ x). new_apart x es below new f s inside_f (load.symmetric x f ∙ subst (λ y. load.overlap f y ≡ true) eg over) (subst (λ y. t y s ≡ true) eg tg) tf)
            (λ inside_g. old.apart f g s inside_f inside_g ne over tf tg)
            (has_cases x es g hg))
            (has_cases x es f hf);
      }

pub rivals_within : (load : Load) (f : ℕ) (es : List ℕ) → Within (rivals load f es) (has es)
rivals_within load f es g e = (and_parts (has es g) (load.overlap f g) e).0

pub plus_within : (load : Load) (f : ℕ) (es : List ℕ) → Within (plus (rivals load f es) f) (has (f ∷ es))
plus_within load f es g e =
    ⊎_elim (λ s. or_left (eqb g f) (has es g) s) (λ r. has_later f es g (rivals_within load f es g r)) (or_cases (eqb g f) (rivals load f es g) e)

-- a flow and the earlier flows that overlap it all overlap
pub plus_overlap : (load : Load) (f : ℕ) (es : List ℕ) → Orderly load.overlap (f ∷ es) → AllOverlap load.overlap (plus (rivals load f es) f)
plus_overlap load f es fine g h pg ph ne =
    ⊎_elim
    (λ eg. ⊎_elim
    (λ eh. absurd (ne (eqb-true g f eg ∙ sym (eqb-true h f eh))))
    (λ rh. subst (λ y. load.overlap y h ≡ true) (sym (eqb-true g f eg)) (over h rh))
    (or_cases (eqb h f) (rivals load f es h) ph))
    (λ rg. ⊎_elim
    (λ eh. subst (λ y. load.overlap g y ≡ true) (sym (eqb-true h f eh)) (load.symmetric g f ∙ over g rg))
    (λ rh. fine.1 g h rg rh ne)
    (or_cases (eqb h f) (rivals load f es h) ph))
    (or_cases (eqb g f) (rivals load f es g) pg)
  where
    over : (h : ℕ) → rivals load f es h ≡ true → load.overlap f h ≡ true
    over h r = (and_parts (has es h) (load.overlap f h) r).1

pub total_plus : (load : Load) (f : ℕ) (es : List ℕ) → f < load.flows → has es f ≡ false →
    total load.demand (plus (rivals load f es) f) load.flows ≡ load.demand f + total load.demand (rivals load f es) load.flows
total_plus load f es b out =
    let one = total_one load.demand f load.flows b in
    let both = total_or load.demand (λ g. eqb g f) (rivals load f es) load.flows
    (λ g _ e r. both_ways (has es f) out (subst (λ y. has es y ≡ true) (eqb-true g f e) (rivals_within load f es g r))) in
    omega arith

pub steps_stand : StepsStand
steps_stand load t f es b fine made =
    let placed = greedy_places load t es (below_rest load.flows f es b) made in
    let sum = held load (has es) t placed (rivals load f es) (rivals_within load f es) fine.1 in
    let whole = count_not (taken t load.flows (rivals load f es)) load.period in
    let more = total_plus load f es (b f (has_front f es)) fine.0 in
    record {
      all_overlap = plus_overlap load f es fine;
      valid = omega arith;
      too_much = λ short. omega arith;
      too_few = λ much. omega arith;
      hopeless = λ short p part u placing.
          let fits = held_le load p u placing (plus (rivals load f es) f) (λ g e. part g (plus_within load f es g e)) (plus_overlap load f es fine) in
          omega arith;
    }
