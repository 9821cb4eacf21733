-- The span after the greedy.
use Rattle.std.proofs.Common.{◌≡◌, ℕ, suc, ◌<◌, ◌≤◌, Bool, true, false, eqb, ◌⊎◌, List, [], ◌∷◌, sym, refl, ◌∙◌, subst, inl, inr, ⊎_elim, arith}
use Rattle.std.proofs.lemmas.Bool.{both_ways, cases_Bool, cases_eq, eq-eqb, and_parts, or_left, or_right, not_from_false}
use Rattle.planner.specs.Orders.{Within, Below, plus, AllOverlap, has, Orderly, Order}
use Rattle.planner.specs.Slots.{total, count, taken, Load, Placing, Earliest, rivals, valid_for, Greedy, EndsBy, SpansStand}
use Rattle.planner.proofs.Sets.{has_front, has_later, has_cases}
use Rattle.planner.proofs.Totals.{count_le, count_all, count_bounds, total_none}
use Rattle.planner.proofs.Held.{taken_from, taken_gives, held_together, unshared}
use Rattle.planner.proofs.Steps.{below_rest, greedy_places, plus_within, plus_overlap}
use Rattle.planner.proofs.Runs.{along_places, listed, member}

-- flows that all overlap hold as many slots below any number that bounds what they hold
held_below : (load : Load) (p : ℕ → Bool) (t : ℕ → ℕ → Bool) (m : ℕ) → Placing load p t → EndsBy p t m →
    (k : ℕ → Bool) → Within k p → AllOverlap load.overlap k → count (taken t load.flows k) m ≡ total load.demand k load.flows
held_below load p t m placing ends k part all =
    held_together t load.demand k m (unshared load p t placing k part all) load.flows
    (λ f _ kf. count_bounds (t f) m load.period (λ s. ends f s (part f kf)) (λ s. placing.inside f s (part f kf)) ∙ placing.amount f (part f kf))

span_bounds : (load : Load) (p : ℕ → Bool) (t : ℕ → ℕ → Bool) (m : ℕ) → Placing load p t → EndsBy p t m →
    (k : ℕ → Bool) → Within k p → AllOverlap load.overlap k → total load.demand k load.flows ≤ m
span_bounds load p t m placing ends k part all = omega (arith, held_below load p t m placing ends k part all, count_le (taken t load.flows k) m)

-- below a slot that f holds, every slot is held by f or by an earlier flow that overlaps f
filled : (load : Load) (t : ℕ → ℕ → Bool) (f : ℕ) (es : List ℕ) → Below load.flows (has (f ∷ es)) →
    Earliest (valid_for load t f es) (t f) (load.demand f) load.period → (s : ℕ) → t f s ≡ true →
    (r : ℕ) → r < suc s → taken t load.flows (plus (rivals load f es) f) r ≡ true
filled load t f es b new s top r l =
    ⊎_elim
    (λ held.
    let found = taken_gives t load.flows (rivals load f es) r held in
    let parts = and_parts (rivals load f es found.0) (t found.0 r) found.2 in
    taken_from t load.flows (plus (rivals load f es) f) r found.0 found.1 (or_right (eqb found.0 f) (rivals load f es found.0) parts.0) parts.1)
    (λ open'. mine (⊎_elim
    (λ (e : r ≡ s). subst (λ x. t f x ≡ true) (sym e) top)
    (λ ne. new.packed r s (omega arith) top (not_from_false (taken t load.flows (rivals load f es) r) open'))
    (cases_eq r s)))
    (cases_Bool (taken t load.flows (rivals load f es) r))
  where
    mine : t f r ≡ true → taken t load.flows (plus (rivals load f es) f) r ≡ true
    mine h = taken_from t load.flows (plus (rivals load f es) f) r f (b f (has_front f es)) (or_left (eqb f f) (rivals load f es f) (eq-eqb f f refl)) h

-- flows of the list that all overlap, and that hold together the slots up to s
abbrev Fills : Load → List ℕ → ℕ → Type 0
Fills load xs m = (k : ℕ → Bool) × Within k (has xs) × AllOverlap load.overlap k × (total load.demand k load.flows ≡ m)

fills : (load : Load) (t : ℕ → ℕ → Bool) (f s : ℕ) → t f s ≡ true → (xs : List ℕ) → Below load.flows (has xs) → Orderly load.overlap xs → Greedy load t xs →
    has xs f ≡ true → EndsBy (has xs) t (suc s) → Fills load xs (suc s)
fills load t f s top [] b fine made in' ends = absurd (both_ways false refl in')
fills load t f s top (x ∷ es) b fine made in' ends =
    ⊎_elim
    (λ (e : f ≡ x).
    let k = plus (rivals load x es) x in
    let sum = held_below load (has (x ∷ es)) t (suc s) (greedy_places load t (x ∷ es) b made) ends k (plus_within load x es) (plus_overlap load x es fine) in
    let all = count_all (taken t load.flows k) (suc s) (filled load t x es b made.0 s (subst (λ y. t y s ≡ true) e top)) in
    (k, plus_within load x es, plus_overlap load x es fine, omega arith))
    (λ later.
    let rest = fills load t f s top es (below_rest load.flows x es b) fine.2 made.1 later (λ g r h. ends g r (has_later x es g h)) in
    (rest.0, λ g h. has_later x es g (rest.1 g h), rest.2, rest.3))
    (has_cases x es f in')

greatest : (load : Load) (p : ℕ → Bool) (xs : List ℕ) (t : ℕ → ℕ → Bool) (m : ℕ) → Below load.flows p → (order : Order load.overlap p xs) → Greedy load t xs → EndsBy p t m →
    ((m ≡ 0) ⊎ ((f : ℕ) × (s : ℕ) × (p f ≡ true) × (t f s ≡ true) × (m ≡ suc s))) →
    (k : ℕ → Bool) × Within k p × AllOverlap load.overlap k × (total load.demand k load.flows ≡ m)
greatest load p xs t m b order made ends (inl none) = (
  (λ _. false),
  λ f e. absurd (both_ways false refl e),
  λ f g e. absurd (both_ways false refl e),
  total_none load.demand (λ _. false) load.flows (λ _ _. refl) ∙ sym none,
)
greatest load p xs t m b order made ends (inr (f, s, in', top, is)) =
    let members = member load p xs b order in
    let found = fills load t f s top xs (λ g h. b g (members g h)) order.fine made (listed load p xs b order f in') (λ g r h held. subst (λ y. r < y) is (ends g r (members g h) held)) in
    (found.0, λ g h. members g (found.1 g h), found.2, found.3 ∙ sym is)

pub spans_stand : SpansStand
spans_stand load p xs t m b order made span =
    let placing = along_places load p xs b order t made in
    let top = greatest load p xs t m b order made span.ends span.met in (
      record { bounds = span_bounds load p t m placing span.ends; met = top },
      λ u l other ends. let low = span_bounds load p u l other ends top.0 top.1 top.2 in let is = top.3 in omega arith,
    )
