-- Lists of sets of flows, as tables hold them.
use Rattle.std.proofs.Common.{◌≡◌, ℕ, zero, suc, ◌+◌, ◌^◌, ◌<◌, ◌≤◌, Bool, true, false, cond, ◌&&◌, Decides, eqb, ltb, List, length, get_or, set, replicate, sym, refl, ap, ◌∙◌, ⊎_elim, arith}
use Rattle.std.proofs.lemmas.List.{get_or_past, get_or-set_same, get_or-set_other}
use Rattle.planner.specs.declared.flow_sets.FlowSet.{FlowSet}
use Rattle.planner.specs.FlowSets.{members}
use Rattle.std.proofs.lemmas.Bool.{false≢true, cases_Bool, and_parts, and_right, eq-eqb, ne_eqb, lt-ltb, le-ltb, cond-true, cond-false, cases_eq}
use Rattle.std.proofs.lemmas.Bool.Decides.{nat_tests}
use Rattle.planner.specs.Slots.{taken}
use Rattle.planner.proofs.Bits.{bit_above}
pub use Rattle.planner.proofs.Bits.{bit_none}
use Rattle.planner.proofs.Held.{taken_from, taken_gives}

-- the sets of a table that starts as one set over and over
pub repeated : (x d : FlowSet) (n k g : ℕ) → members x g ≡ false → members d g ≡ false → members (get_or (replicate n x) k d) g ≡ false
repeated x d zero k g here past = past
repeated x d (suc n) zero g here past = here
repeated x d (suc n) (suc k) g here past = repeated x d n k g here past

-- past its end a table has the empty set
pub past_end : (sets : List FlowSet) (i g : ℕ) → length sets ≤ i → members (get_or sets i (record { 0 = 0 })) g ≡ false
past_end sets i g past = ap (λ (x : FlowSet). members x g) (get_or_past sets i (record { 0 = 0 }) past) ∙ bit_none g

pub cond_same : (b c x : Bool) → x ≡ false → cond b (cond c false x) x ≡ cond c false x
cond_same true c x e = refl
cond_same false true x e = e
cond_same false false x e = refl

-- a set of 64 has no flow from 64 on
pub past_flows : (set : FlowSet) (f : ℕ) → set.0 < 2 ^ 64 → 64 ≤ f → members set f ≡ false
past_flows set f fits past = bit_above 64 set.0 f fits past

-- a test that finds a flow of k in the slot, and only then, says whether the slot is taken
pub taken_is : (t : ℕ → ℕ → Bool) (n : ℕ) (k : ℕ → Bool) (s : ℕ) (b : Bool) → Decides b ((f : ℕ) × (f < n) × (t f s ≡ true) × (k f ≡ true)) → b ≡ taken t n k s
taken_is t n k s true tells = let found = tells.0 refl in sym (taken_from t n k s found.0 found.1 found.3 found.2)
taken_is t n k s false tells = ⊎_elim
    (λ e.
    let found = taken_gives t n k s e in
    let parts = and_parts (k found.0) (t found.0 s) found.2 in
    absurd (false≢true (tells.1 (found.0, found.1, parts.1, parts.0))))
    (λ none. sym none)
    (cases_Bool (taken t n k s))

-- another number than m is below m + 1 just if it is below m
pub below_more : (k m : ℕ) → (k ≡ m → ⊥) → ltb k (m + 1) ≡ ltb k m
below_more k m ne = grind (arith, nat_tests, ne)

and_true : (b c : Bool) → c ≡ true → (b && c) ≡ b
and_true true c e = e
and_true false c e = refl

-- whether the set at s has the flow f
abbrev at : List FlowSet → ℕ → ℕ → Bool
at sets s f = members (get_or sets s (record { 0 = 0 })) f

-- x takes the place of the set at i
module _ (sets : List FlowSet) (i : ℕ) (x : FlowSet) (room : i < length sets) where
  here : (s f : ℕ) → s ≡ i → at (set sets i x) s f ≡ members x f
  here s f e = ap (λ j. at (set sets i x) j f) e ∙ ap (λ (y : FlowSet). members y f) (get_or-set_same sets i x (record { 0 = 0 }) room)

  elsewhere : (s f : ℕ) → (s ≡ i → ⊥) → at (set sets i x) s f ≡ at sets s f
  elsewhere s f ne = ap (λ (y : FlowSet). members y f) (get_or-set_other sets i s x (record { 0 = 0 }) ne)

  -- one flow more
  pub marked : (flow : ℕ) → ((k : ℕ) → members x k ≡ cond (eqb k flow) true (at sets i k)) →
      (f s : ℕ) → at (set sets i x) s f ≡ cond (eqb f flow && eqb s i) true (at sets s f)
  marked flow new f s = ⊎_elim
      (λ (e : s ≡ i). here s f e ∙ new f ∙ ap (λ j. cond (eqb f flow) true (at sets j f)) (sym e) ∙ ap (λ b. cond b true (at sets s f)) (sym (and_true (eqb f flow) (eqb s i) (eq-eqb s i e))))
      (λ ne. elsewhere s f ne ∙ sym (cond-false (eqb f flow && eqb s i) true (at sets s f) (and_right (eqb f flow) (eqb s i) (ne_eqb s i ne))))
      (cases_eq s i)

  -- the flow n is taken out of the set at i too, after those before it
  pub swept : (old : ℕ → ℕ → Bool) (n : ℕ) → ((s f : ℕ) → at sets s f ≡ cond (ltb s i) (cond (eqb f n) false (old s f)) (old s f)) →
      ((k : ℕ) → members x k ≡ cond (eqb k n) false (at sets i k)) →
      (s f : ℕ) → at (set sets i x) s f ≡ cond (ltb s (i + 1)) (cond (eqb f n) false (old s f)) (old s f)
  swept old n so new s f = ⊎_elim
      (λ (e : s ≡ i).
      here s f e ∙ new f ∙ ap (cond (eqb f n) false) (so i f ∙ cond-false (ltb i i) (cond (eqb f n) false (old i f)) (old i f) (le-ltb i i (omega arith)))
      ∙ ap (λ j. cond (eqb f n) false (old j f)) (sym e) ∙ sym (cond-true (ltb s (i + 1)) (cond (eqb f n) false (old s f)) (old s f) (lt-ltb s (i + 1) (omega arith))))
      (λ ne. elsewhere s f ne ∙ so s f ∙ ap (λ b. cond b (cond (eqb f n) false (old s f)) (old s f)) (sym (below_more s i ne)))
      (cases_eq s i)
