-- Placing along a list, flow by flow, and what it says along an order.
use Rattle.std.proofs.Common.{◌≡◌, ℕ, ◌+◌, ◌<◌, Bool, true, false, cond, ◌&&◌, ◌||◌, eqb, List, [], ◌∷◌, ◌++◌, map, length, get_or, take, drop, reverse, sym, refl, ap, ◌∙◌, subst, ⊎_elim, arith}
use mathlib.Core.Path.{fun_ext}
use Rattle.std.proofs.lemmas.List.{take-append-drop, drop_more, reverse-append, reverse-reverse, append_assoc, map-append, map-id}
use Rattle.std.proofs.lemmas.Bool.{false≢true, eqb-false, eq-eqb, ne_eqb, or_parts, cases_eq, cases_lt, cond-true, cond-false}
use Rattle.planner.specs.declared.flow_numbers.FlowNumber.{FlowNumber}
use Rattle.planner.specs.FlowOrders.{numbers}
use Rattle.planner.specs.Orders.{Within, Below, plus, has, Orderly, Order}
use Rattle.planner.specs.Slots.{total, Load, Given, rivals, valid_for, Greedy, Short, Next}
use Rattle.planner.specs.Placings.{Once, PlacedAlong, ShortAlong, FitsAlong, Crowded}
use Rattle.planner.proofs.Sets.{has_front, has_later, has_cases}
use Rattle.planner.proofs.Steps.{plus_within, total_plus, steps_stand}
use Rattle.planner.proofs.Runs.{earliest_stands, put, greedy_more, greedy_stands}

-- a loop over flows from the last to the first, which has seen some and comes to the flow x: the flows are later ones, x, and those seen
pub turn : (xs seen : List FlowNumber) (x : FlowNumber) → map (λ (y : FlowNumber). y) seen ≡ take (length seen) (reverse xs) →
    (length seen < length (reverse xs)) × (x ≡ get_or (reverse xs) (length seen) x) → (later : List ℕ) × (numbers xs ≡ later ++ (x.number ∷ numbers (reverse seen)))
turn xs seen x so next =
    let n = length seen in
    let rest = drop (n + 1) (reverse xs) in
    let front : seen ≡ take n (reverse xs) = sym (map-id seen) ∙ so in
    let whole : reverse xs ≡ seen ++ (x ∷ rest) =
    sym (take-append-drop n (reverse xs)) ∙ ap (λ ys. ys ++ drop n (reverse xs)) (sym front) ∙ ap (λ ys. seen ++ ys) (drop_more (reverse xs) n x next.0 ∙ ap (λ y. y ∷ rest) (sym next.1)) in
    let parts : xs ≡ reverse rest ++ (x ∷ reverse seen) =
    sym (reverse-reverse xs) ∙ ap reverse whole ∙ reverse-append seen (x ∷ rest) ∙ ap (λ ys. ys ++ reverse seen) (reverse-append (x ∷ []) rest) ∙ append_assoc (reverse rest) (x ∷ []) (reverse seen) in
    (numbers (reverse rest), ap numbers parts ∙ map-append (λ (y : FlowNumber). y.number) (reverse rest) (x ∷ reverse seen))

-- the numbers of flows are below 64
pub numbers_below : (flows : List FlowNumber) → Below 64 (has (numbers flows))
numbers_below [] f h = absurd (false≢true h)
numbers_below (x ∷ xs) f h = ⊎_elim (λ (e : f ≡ x.number). subst (λ n. n < 64) (sym e) x.below) (λ rest. numbers_below xs f rest) (has_cases x.number (numbers xs) f h)

-- the end of a list
module _ (f : ℕ) (es : List ℕ) where
  pub once_end : (later : List ℕ) → Once (later ++ (f ∷ es)) → has es f ≡ false
  once_end [] once = once.0
  once_end (x ∷ later) once = once_end later once.1

  has_end : (later : List ℕ) (g : ℕ) → has (f ∷ es) g ≡ true → has (later ++ (f ∷ es)) g ≡ true
  has_end [] g h = h
  has_end (x ∷ later) g h = has_later x (later ++ (f ∷ es)) g (has_end later g h)

  orderly_end : (ov : ℕ → ℕ → Bool) (later : List ℕ) → Orderly ov (later ++ (f ∷ es)) → Orderly ov (f ∷ es)
  orderly_end ov [] fine = fine
  orderly_end ov (x ∷ later) fine = orderly_end ov later fine.2

  greedy_end : (load : Load) (t : ℕ → ℕ → Bool) (later : List ℕ) → Greedy load t (later ++ (f ∷ es)) → Greedy load t (f ∷ es)
  greedy_end load t [] made = made
  greedy_end load t (x ∷ later) made = greedy_end load t later made.1

  -- the steps of a list hold at its end
  next_end : (load : Load) (t : ℕ → ℕ → Bool) (xs later : List ℕ) → xs ≡ later ++ (f ∷ es) → Below load.flows (has xs) → Greedy load t es → Orderly load.overlap xs → Next load t f es
  next_end load t xs later parts b made fine =
      steps_stand load t f es (λ g h. b g (subst (λ ys. has ys g ≡ true) (sym parts) (has_end later g h)))
      (orderly_end load.overlap later (subst (Orderly load.overlap) parts fine)) made

-- no flow yet
pub placed_none : (load : Load) (t : ℕ → ℕ → Bool) → ((f s : ℕ) → t f s ≡ false) → PlacedAlong load [] t
placed_none load t none = record { greedy = tt; others = λ f s _. none f s }

-- one flow more, which was given its earliest slots
pub placed_more : (load : Load) (t u : ℕ → ℕ → Bool) (f : ℕ) (es : List ℕ) → has es f ≡ false → PlacedAlong load es t →
    Given t u load.flows f (rivals load f es) (load.demand f) load.period → PlacedAlong load (f ∷ es) u
placed_more load t u f es out so new =
    let same : put t f (u f) ≡ u = fun_ext (λ g. ⊎_elim
    (λ (e : g ≡ f). cond-true (eqb g f) (u f) (t g) (eq-eqb g f e) ∙ ap u (sym e))
    (λ ne. cond-false (eqb g f) (u f) (t g) (ne_eqb g f ne) ∙ sym (fun_ext (λ s. new.others g s ne)))
    (cases_eq g f)) in
    record {
      greedy = subst (λ v. Greedy load v (f ∷ es)) same (greedy_more load t f es (u f) out so.greedy new.earliest);
      others = λ g s none. let parts = or_parts (eqb g f) (has es g) none in new.others g s (eqb-false g f parts.0) ∙ so.others g s parts.1;
    }

-- the earlier flows that overlap a flow
pub rivals_are : (load : Load) (f : ℕ) (es : List ℕ) (placed group both : ℕ → Bool) → ((g : ℕ) → placed g ≡ has es g) → ((g : ℕ) → group g ≡ load.overlap f g) →
    ((g : ℕ) → both g ≡ (placed g && group g)) → both ≡ rivals load f es
rivals_are load f es placed group both p o is = fun_ext (λ g. is g ∙ ap (λ b. b && group g) (p g) ∙ ap (λ b. has es g && b) (o g))

-- one flow more in a set
pub plus_is : (b x : Bool) → cond b true x ≡ (b || x)
plus_is true x = refl
plus_is false x = refl

-- a flow that is short
pub short_at : (load : Load) (xs later : List ℕ) (f : ℕ) (es : List ℕ) (t : ℕ → ℕ → Bool) (group : ℕ → Bool) → xs ≡ later ++ (f ∷ es) → Below load.flows (has xs) → PlacedAlong load es t →
    Short load t f es → ((g : ℕ) → group g ≡ plus (rivals load f es) f g) → ShortAlong load xs group
short_at load xs later f es t group parts b so few is = record {
  later = later;
  flow = f;
  earlier = es;
  parts = parts;
  table = t;
  placed = so;
  short = few;
  group_is = is;
  next = next_end f es load t xs later parts b so.greedy;
}

-- what the outcome says of a set of which the list is an order
module _ (load : Load) (p : ℕ → Bool) (xs : List ℕ) (b : Below load.flows (has xs)) (order : Order load.overlap p xs) where
  below : Below load.flows p
  below g h = b g (sym (order.lists g) ∙ h)

  pub fits_along : (t : ℕ → ℕ → Bool) → PlacedAlong load xs t → FitsAlong load p xs t
  fits_along t so =
      let along = greedy_stands load p xs below order in
      record {
        placing = along.places t so.greedy;
        only = λ u made. along.one u t made so.greedy;
        fits = λ later es f parts.
            let made = greedy_end f es load t later (subst (Greedy load t) parts so.greedy) in
            let next = next_end f es load t xs later parts b made.1 order.fine in
            let enough = (earliest_stands (valid_for load t f es) (load.demand f) load.period).enough (t f) made.0 in
            ⊎_elim
            (λ much. let few = next.too_few much in absurd (omega arith))
            (λ fits. fits)
            (cases_lt load.period (load.demand f + total load.demand (rivals load f es) load.flows));
      }

  pub crowded_along : (group : ℕ → Bool) → ShortAlong load xs group → Crowded load p group
  crowded_along group so =
      let f = so.flow in
      let es = so.earlier in
      let next = so.next order.fine in
      let ours : group ≡ plus (rivals load f es) f = fun_ext so.group_is in
      let fine = orderly_end f es load.overlap so.later (subst (Orderly load.overlap) so.parts order.fine) in
      let part : Within (has (f ∷ es)) p = λ g h. order.lists g ∙ subst (λ ys. has ys g ≡ true) (sym so.parts) (has_end f es so.later g h) in
      record {
        within = λ g h. part g (plus_within load f es g (ap (λ q. q g) (sym ours) ∙ h));
        all_overlap = subst (λ q. (g h : ℕ) → q g ≡ true → q h ≡ true → (g ≡ h → ⊥) → load.overlap g h ≡ true) (sym ours) next.all_overlap;
        too_much =
            let sum = total_plus load f es (below f (part f (has_front f es))) fine.0 in
            let same = ap (λ q. total load.demand q load.flows) ours in
            let much = next.too_much so.short in
            omega arith;
        none = next.hopeless so.short p part;
      }
