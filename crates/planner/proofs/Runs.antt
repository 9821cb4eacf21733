-- The greedy along a whole order.
use Rattle.std.proofs.Common.{◌≡◌, ℕ, suc, ◌<◌, ◌≤◌, Bool, true, false, cond, not, ◌&&◌, eqb, ltb, ◌⊎◌, List, [], ◌∷◌, sym, refl, ap, ◌∙◌, subst, subst₂, inl, inr, ⊎_elim, arith}
use mathlib.Core.Path.{fun_ext}
use Rattle.std.proofs.lemmas.Bool.{both_ways, ltb-true, lt-ltb, le-ltb, eq-eqb, ne_eqb, and_parts, and_from, and_right, cases_Bool, cases_eq, cases_lt, cond-true, cond-false}
use Rattle.planner.specs.Orders.{Within, Below, has, Orderly, Order}
use Rattle.planner.specs.Slots.{total, count, some_below, free, Load, Placing, Earliest, rivals, valid_for, Greedy, FallsShort, EarliestStands, GreedyStands}
use Rattle.planner.proofs.Sets.{has_front, has_later, has_cases, tells_apart}
use Rattle.planner.proofs.Totals.{total_same, count_mono, count_part, count_bounds, firsts, count_firsts}
use Rattle.planner.proofs.Steps.{below_rest, greedy_places, rivals_within, steps_stand}

in_range : (a b : Bool) → b ≡ true → (a && b) ≡ a
in_range true b e = e
in_range false b e = refl

-- where enough slots are valid, the earliest of them can be taken
pub earliest : (p : ℕ → Bool) (d m : ℕ) → d ≤ count p m → Earliest p (λ s. firsts p d s && ltb s m) d m
earliest p d m enough = record {
  amount =
      let same = total_same (λ _. 1) (λ s. firsts p d s && ltb s m) (firsts p d) m (λ s b. in_range (firsts p d s) (ltb s m) (lt-ltb s m b)) in
      let all = count_firsts p d m in
      omega arith;
  inside = λ s e. ltb-true s m (and_parts (firsts p d s) (ltb s m) e).1;
  valid = λ s e. (and_parts (p s) (ltb (count p s) d) (and_parts (firsts p d s) (ltb s m) e).0).0;
  packed = λ s u l e ok.
      let parts = and_parts (firsts p d u) (ltb u m) e in
      let few = ltb-true (count p u) d (and_parts (p u) (ltb (count p u) d) parts.0).1 in
      let low = ltb-true u m parts.1 in
      let fewer = count_mono p s u (omega arith) in
      and_from (firsts p d s) (ltb s m) (and_from (p s) (ltb (count p s) d) ok (lt-ltb (count p s) d (omega arith))) (lt-ltb s m (omega arith));
}

-- the earliest slots, as a row of m slots has them
pub earliest_row : (p r : ℕ → Bool) (d m : ℕ) → ((s : ℕ) → s < m → r s ≡ firsts p d s) → ((s : ℕ) → m ≤ s → r s ≡ false) → d ≤ count p m → Earliest p r d m
earliest_row p r d m row past enough =
    let same : (λ s. firsts p d s && ltb s m) ≡ r = fun_ext (λ s. ⊎_elim
    (λ b. in_range (firsts p d s) (ltb s m) (lt-ltb s m b) ∙ sym (row s b))
    (λ b. and_right (firsts p d s) (ltb s m) (le-ltb s m b) ∙ sym (past s b))
    (cases_lt s m)) in
    subst (λ q. Earliest p q d m) same (earliest p d m enough)

-- what the earliest slots are
pub earliest_is : (p r : ℕ → Bool) (d m : ℕ) → Earliest p r d m → (s : ℕ) → r s ≡ (firsts p d s && ltb s m)
unfolding total
earliest_is p r d m h s =
    ⊎_elim
    (λ held.
    let fewer = count_part p r s (λ u l ok. h.packed u s l held ok) in
    let inside = h.inside s held in
    let next = count_mono r (suc s) m (omega arith) in
    let one : ◌≡◌ {A = ℕ} (cond (r s) 1 0) 1 = cond-true (r s) 1 0 held in
    let all = h.amount in
    held ∙ sym (and_from (firsts p d s) (ltb s m) (and_from (p s) (ltb (count p s) d) (h.valid s held) (lt-ltb (count p s) d (omega arith))) (lt-ltb s m inside)))
    (λ out. out ∙ sym (⊎_elim
    (λ e.
    let parts = and_parts (firsts p d s) (ltb s m) e in
    let ok = and_parts (p s) (ltb (count p s) d) parts.0 in
    let few = ltb-true (count p s) d ok.1 in
    let low = ltb-true s m parts.1 in
    let bound : (u : ℕ) → r u ≡ true → u < s = λ u hu. ⊎_elim (λ l. l) (λ l. ⊎_elim (λ (e : u ≡ s). absurd (both_ways (r s) out (subst (λ x. r x ≡ true) e hu))) (λ ne. absurd (both_ways (r s) out (h.packed s u (omega arith) hu ok.0))) (cases_eq u s)) (cases_lt u s) in
    let same = count_bounds r m s h.inside bound in
    let part = count_part r p s (λ u _. h.valid u) in
    let all = h.amount in
    absurd (omega arith))
    (λ e. e)
    (cases_Bool (firsts p d s && ltb s m))))
    (cases_Bool (r s))

pub earliest_one : (p q r : ℕ → Bool) (d m : ℕ) → Earliest p q d m → Earliest p r d m → (s : ℕ) → q s ≡ r s
earliest_one p q r d m one other s = earliest_is p q d m one s ∙ sym (earliest_is p r d m other s)

pub earliest_stands : EarliestStands
earliest_stands p d m = record {
  some = λ enough. ((λ s. firsts p d s && ltb s m), earliest p d m enough);
  enough = λ r h. let part = count_part r p m (λ s _. h.valid s) in let all = h.amount in omega arith;
  one = λ q r. earliest_one p q r d m;
}

and_same : (a b c : Bool) → (a ≡ true → b ≡ c) → (a && b) ≡ (a && c)
and_same true b c h = h refl
and_same false b c h = refl

pub free_same : (t u : ℕ → ℕ → Bool) (n : ℕ) (k : ℕ → Bool) → ((g : ℕ) → k g ≡ true → t g ≡ u g) → free t n k ≡ free u n k
free_same t u n k same = fun_ext (λ s. ap (λ q. not (some_below q n)) (fun_ext (λ g. and_same (k g) (t g s) (u g s) (λ e. ap (λ r. r s) (same g e)))))

-- the greedy has one way to place its flows
greedy_one : (load : Load) (t u : ℕ → ℕ → Bool) (xs : List ℕ) → Greedy load t xs → Greedy load u xs → (f : ℕ) → has xs f ≡ true → t f ≡ u f
greedy_one load t u [] made other f in' = absurd (both_ways false refl in')
greedy_one load t u (x ∷ es) made other f in' =
    let before = greedy_one load t u es made.1 other.1 in
    ⊎_elim
    (λ (e : f ≡ x).
    let slots = free_same t u load.flows (rivals load x es) (λ g r. before g (rivals_within load x es g r)) in
    let d = load.demand x in
    let m = load.period in
    let mine : t x ≡ u x = fun_ext (λ s. earliest_is (valid_for load t x es) (t x) d m made.0 s ∙ ap (λ p. firsts p d s && ltb s m) slots ∙ sym (earliest_is (valid_for load u x es) (u x) d m other.0 s)) in
    subst (λ y. t y ≡ u y) (sym e) mine)
    (before f)
    (has_cases x es f in')

-- the greedy looks at the slots of its own flows alone
greedy_same : (load : Load) (t u : ℕ → ℕ → Bool) (xs : List ℕ) → ((g : ℕ) → has xs g ≡ true → t g ≡ u g) → Greedy load t xs → Greedy load u xs
greedy_same load t u [] same made = tt
greedy_same load t u (f ∷ es) same made = (
  subst₂ (λ p r. Earliest p r (load.demand f) load.period) (free_same t u load.flows (rivals load f es) (λ g r. same g (has_later f es g (rivals_within load f es g r)))) (same f (has_front f es)) made.0,
  greedy_same load t u es (λ g h. same g (has_later f es g h)) made.1,
)

-- the table t with the slots r for f
abbrev pub put : (ℕ → ℕ → Bool) → ℕ → (ℕ → Bool) → ℕ → ℕ → Bool
put t f r g = cond (eqb g f) r (t g)

put_same : (t : ℕ → ℕ → Bool) (f : ℕ) (r : ℕ → Bool) (g : ℕ) → (g ≡ f → ⊥) → t g ≡ put t f r g
put_same t f r g ne = sym (cond-false (eqb g f) r (t g) (ne_eqb g f ne))

-- one flow more
pub greedy_more : (load : Load) (t : ℕ → ℕ → Bool) (f : ℕ) (es : List ℕ) (r : ℕ → Bool) → has es f ≡ false → Greedy load t es →
    Earliest (valid_for load t f es) r (load.demand f) load.period → Greedy load (put t f r) (f ∷ es)
greedy_more load t f es r out made new =
    let same : (g : ℕ) → has es g ≡ true → t g ≡ put t f r g = λ g h. put_same t f r g (tells_apart (has es) g f h out) in (
      subst₂ (λ p q. Earliest p q (load.demand f) load.period) (free_same t (put t f r) load.flows (rivals load f es) (λ g e. same g (rivals_within load f es g e))) (sym (cond-true (eqb f f) r (t f) (eq-eqb f f refl))) new,
      greedy_same load t (put t f r) es same made,
    )

abbrev Runs : Load → List ℕ → Type 0
Runs load xs = ((t : ℕ → ℕ → Bool) × Greedy load t xs) ⊎ ((t : ℕ → ℕ → Bool) × FallsShort load t xs)

runs_more : (load : Load) (f : ℕ) (es : List ℕ) → has es f ≡ false → Runs load es → Runs load (f ∷ es)
runs_more load f es out (inl (t, made)) =
    ⊎_elim
    (λ few. inr (t, inl (made, few)))
    (λ enough. let p = valid_for load t f es in let d = load.demand f in let m = load.period in inl (put t f (λ s. firsts p d s && ltb s m), greedy_more load t f es (λ s. firsts p d s && ltb s m) out made (earliest p d m enough)))
    (cases_lt (count (valid_for load t f es) load.period) (load.demand f))
runs_more load f es out (inr (t, short)) = inr (t, inr short)

runs : (load : Load) (xs : List ℕ) → Orderly load.overlap xs → Runs load xs
runs load [] fine = inl ((λ f s. false), tt)
runs load (f ∷ es) fine = runs_more load f es fine.0 (runs load es fine.2)

short_refutes : (load : Load) (p : ℕ → Bool) (t u : ℕ → ℕ → Bool) (xs : List ℕ) → Below load.flows (has xs) → Orderly load.overlap xs → Within (has xs) p →
    FallsShort load t xs → Placing load p u → ⊥
short_refutes load p t u [] b fine part short placing = short
short_refutes load p t u (f ∷ es) b fine part (inl here) placing = (steps_stand load t f es b fine here.0).hopeless here.1 p part u placing
short_refutes load p t u (f ∷ es) b fine part (inr earlier) placing = short_refutes load p t u es (below_rest load.flows f es b) fine.2 (λ g h. part g (has_later f es g h)) earlier placing

-- a placing of what the list has is one of p
relisted : (load : Load) (p : ℕ → Bool) (xs : List ℕ) (t : ℕ → ℕ → Bool) → Within p (has xs) → Placing load (has xs) t → Placing load p t
relisted load p xs t w placing = record {
  amount = λ f e. placing.amount f (w f e);
  inside = λ f s e. placing.inside f s (w f e);
  apart = λ f g s ef eg. placing.apart f g s (w f ef) (w g eg);
}

module _ (load : Load) (p : ℕ → Bool) (xs : List ℕ) (b : Below load.flows p) (order : Order load.overlap p xs) where
  pub listed : Within p (has xs)
  listed g h = sym (order.lists g) ∙ h

  pub member : Within (has xs) p
  member g h = order.lists g ∙ h

  pub along_places : (t : ℕ → ℕ → Bool) → Greedy load t xs → Placing load p t
  along_places t made = relisted load p xs t listed (greedy_places load t xs (λ g h. b g (member g h)) made)

  along_refutes : (t : ℕ → ℕ → Bool) → FallsShort load t xs → (u : ℕ → ℕ → Bool) → Placing load p u → ⊥
  along_refutes t short u placing = short_refutes load p t u xs (λ g h. b g (member g h)) order.fine member short placing

pub greedy_stands : GreedyStands
greedy_stands load p xs b order = record {
  places = along_places load p xs b order;
  refutes = along_refutes load p xs b order;
  ends = runs load xs order.fine;
  short = λ none. ⊎_elim (λ made. absurd (none made.0 (along_places load p xs b order made.0 made.1))) (λ s. s) (runs load xs order.fine);
  one = λ t u made other f s in'. ap (λ r. r s) (greedy_one load t u xs made other f (listed load p xs b order f in'));
}
