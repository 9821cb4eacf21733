-- An order from its end.
use Rattle.std.proofs.Common.{◌≡◌, ℕ, zero, suc, ◌<◌, Bool, true, false, not, ◌&&◌, ◌||◌, eqb, ◌⊎◌, List, [], ◌∷◌, ◌++◌, sym, refl, ap, ◌∙◌, subst, ap₂, inl, inr, ⊎_elim, arith}
use Rattle.std.proofs.lemmas.Bool.{both_ways, eq-eqb, ne_eqb, and_parts, and_from, and_right, or_left, cases_Bool, cases_eq, cases_order, not_from_true}
use Rattle.planner.specs.Orders.{Within, Below, without, beside, AllOverlap, has, Orderly, Order, MayComeLast, ChosenLast, Chosen, Stuck, OrdersStand}
use Rattle.planner.specs.Slots.{count}
use Rattle.planner.proofs.Sets.{without_parts, has_rest, tells_apart, Decided, decide_bool, decide_implied, decide_both, highest, decide_below}
use Rattle.planner.proofs.Totals.{total_without}

module _ (ov : ℕ → ℕ → Bool) where
  pub beside_within : (p q : ℕ → Bool) (f : ℕ) → Within p q → Within (beside ov p f) (beside ov q f)
  beside_within p q f w g e =
      let parts = and_parts (p g) (ov f g) e in
      and_from (q g) (ov f g) (w g parts.0) parts.1

  pub overlap_within : (p q : ℕ → Bool) → Within p q → AllOverlap ov q → AllOverlap ov p
  overlap_within p q w all f g pf pg ne = all f g (w f pf) (w g pg) ne

  -- the latest of q, in an order that has all of q, may come last of q
  pub latest : (xs : List ℕ) → Orderly ov xs → (q : ℕ → Bool) → Within q (has xs) → (f : ℕ) → q f ≡ true → (g : ℕ) × MayComeLast ov q g
  latest [] fine q w f e = absurd (both_ways false refl (w f e))
  latest (x ∷ es) fine q w f e =
      ⊎_elim
      (λ here. (
        x,
        (
          here,
          overlap_within (beside ov (without q x) x) (beside ov (has es) x)
              (beside_within (without q x) (has es) x (λ g out. has_rest x es g (w g (without_parts q x g out).0) (without_parts q x g out).1))
              fine.1,
        ),
      ))
      (λ gone. latest es fine.2 q (λ g qg. has_rest x es g (w g qg) (tells_apart q g x qg gone)) f e)
      (cases_Bool (q x))

  stuck_never : (ys : List ℕ) → Orderly ov ys → (xs : List ℕ) (q : ℕ → Bool) → Within q (has ys) → Stuck ov q xs → ⊥
  stuck_never ys fine [] q w s =
      let found = latest ys fine q w s.0.0 s.0.1 in
      s.1 found.0 found.1
  stuck_never ys fine (f ∷ xs) q w s = stuck_never ys fine xs (without q f) (λ g out. w g (without_parts q f g out).0) s.1

  out_of_itself : (p : ℕ → Bool) (f : ℕ) → without p f f ≡ false
  out_of_itself p f = and_right (p f) (not (eqb f f)) (not_from_true (eqb f f) (eq-eqb f f refl))

  unless : (a b c : Bool) → b ≡ false → (a && not b) ≡ c → a ≡ (b || c)
  unless true true c e h = e ∙ absurd (both_ways true e refl)
  unless false true c e h = sym e
  unless true false c e h = h
  unless false false c e h = h

  lists_more : (p : ℕ → Bool) (f : ℕ) (es : List ℕ) → p f ≡ true → ((g : ℕ) → without p f g ≡ has es g) → (g : ℕ) → p g ≡ has (f ∷ es) g
  lists_more p f es in' rest g =
      ⊎_elim
      (λ (e : g ≡ f). subst (λ x. p x ≡ true) (sym e) in' ∙ sym (or_left (eqb g f) (has es g) (eq-eqb g f e)))
      (λ ne. unless (p g) (eqb g f) (has es g) (ne_eqb g f ne) (rest g))
      (cases_eq g f)

  -- what is chosen is an order
  chosen_order : (xs : List ℕ) (p : ℕ → Bool) → Chosen ov p xs → Order ov p xs
  chosen_order [] p c = record { lists = c; fine = tt }
  chosen_order (f ∷ es) p c =
      let rest = chosen_order es (without p f) c.1 in
      record {
        lists = lists_more p f es c.0.0.0 rest.lists;
        fine = (
          sym (rest.lists f) ∙ out_of_itself p f,
          overlap_within (beside ov (has es) f) (beside ov (without p f) f) (beside_within (has es) (without p f) f (λ g h. rest.lists g ∙ h)) c.0.0.1,
          rest.fine,
        );
      }

  decide_overlap : (n : ℕ) (q : ℕ → Bool) → Below n q → Decided (AllOverlap ov q)
  decide_overlap n q b =
      ⊎_elim
      (λ all. inl (λ f g qf qg. all f (b f qf) g (b g qg) qf qg))
      (λ no'. inr (λ all. no' (λ f _ g _. all f g)))
      (decide_below (λ f. (g : ℕ) → g < n → q f ≡ true → q g ≡ true → (f ≡ g → ⊥) → ov f g ≡ true)
      (λ f. decide_below (λ g. q f ≡ true → q g ≡ true → (f ≡ g → ⊥) → ov f g ≡ true)
      (λ g. decide_implied (decide_bool (q f)) (decide_implied (decide_bool (q g)) (decide_implied (decide_implied (cases_eq f g) (inr (λ x. x))) (decide_bool (ov f g)))))
      n)
      n)

  without_below : (n : ℕ) (p : ℕ → Bool) (f : ℕ) → Below n p → Below n (without p f)
  without_below n p f b g e = b g (without_parts p f g e).0

  decide_last : (n : ℕ) (p : ℕ → Bool) → Below n p → (f : ℕ) → Decided (MayComeLast ov p f)
  decide_last n p b f = decide_both (decide_bool (p f)) (decide_overlap n (beside ov (without p f) f) (λ g e. without_below n p f b g (and_parts (without p f g) (ov f g) e).0))

  abbrev Ends : (ℕ → Bool) → Type 0
  Ends p = ((xs : List ℕ) × Chosen ov p xs) ⊎ ((xs : List ℕ) × Stuck ov p xs)

  -- one turn more
  ends_more : (p : ℕ → Bool) (f : ℕ) → ChosenLast ov p f → Ends (without p f) → Ends p
  ends_more p f last (inl (xs, c)) = inl (f ∷ xs, (last, c))
  ends_more p f last (inr (xs, s)) = inr (f ∷ xs, (last, s))

  -- where none may come last, nothing is left or the choice is stuck
  ends_here : (n : ℕ) (p : ℕ → Bool) → Below n p → ((f : ℕ) → MayComeLast ov p f → ⊥) → Ends p
  ends_here n p b none =
      ⊎_elim
      (λ some. inr ([], ((some.0, some.1.holds), none)))
      (λ empty. inl ([], λ f. ⊎_elim (λ e. absurd (empty f (b f e) e)) (λ e. e) (cases_Bool (p f))))
      (highest (λ f. p f ≡ true) (λ f. decide_bool (p f)) n)

  -- the choice from the end ends, since each turn leaves fewer flows
  ends_by : (n k : ℕ) (p : ℕ → Bool) → Below n p → count p n < k → Ends p
  ends_by n zero p b less = absurd (omega arith)
  ends_by n (suc k) p b less =
      ⊎_elim
      (λ found.
      let f = found.0 in
      let high = found.1 in
      let fewer = total_without (λ _. 1) p f n high.below high.holds.0 in
      ends_more p f (high.holds, λ g l ok. high.top g l (b g ok.0) ok) (ends_by n k (without p f) (without_below n p f b) (omega arith)))
      (λ none. ends_here n p b (λ f ok. none f (b f ok.0) ok))
      (highest (MayComeLast ov p) (decide_last n p b) n)

  chosen_one : (xs ys : List ℕ) (p : ℕ → Bool) → Chosen ov p xs → Chosen ov p ys → xs ≡ ys
  chosen_one [] [] p c d = refl
  chosen_one [] (g ∷ ys) p c d = absurd (both_ways (p g) (c g) d.0.0.0)
  chosen_one (f ∷ xs) [] p c d = absurd (both_ways (p f) (d f) c.0.0.0)
  chosen_one (f ∷ xs) (g ∷ ys) p c d =
      let same : f ≡ g = ⊎_elim (λ e. e) (⊎_elim (λ l. absurd (c.0.1 g l d.0.0)) (λ l. absurd (d.0.1 f l c.0.0))) (cases_order f g) in
      ap₂ ◌∷◌ same (chosen_one xs ys (without p f) c.1 (subst (λ h. Chosen ov (without p h) ys) (sym same) d.1))

-- The choice as a loop makes it: from p it has taken xs, in this order, and q is left.
abbrev pub Took : (ℕ → ℕ → Bool) → (ℕ → Bool) → List ℕ → (ℕ → Bool) → Type 0
Took ov p [] q = p ≡ q
Took ov p (f ∷ xs) q = ChosenLast ov p f × Took ov (without p f) xs q

module _ (ov : ℕ → ℕ → Bool) where
  pub took_push : (p : ℕ → Bool) (xs : List ℕ) (q : ℕ → Bool) (f : ℕ) → Took ov p xs q → ChosenLast ov q f → Took ov p (xs ++ f ∷ []) (without q f)
  took_push p [] q f took last = (subst (λ r. ChosenLast ov r f) (sym took) last, ap (λ r. without r f) took)
  took_push p (x ∷ xs) q f took last = (took.0, took_push (without p x) xs q f took.1 last)

  pub took_all : (p : ℕ → Bool) (xs : List ℕ) (q : ℕ → Bool) → Took ov p xs q → ((f : ℕ) → q f ≡ false) → Chosen ov p xs
  took_all p [] q took none = subst (λ r. (f : ℕ) → r f ≡ false) (sym took) none
  took_all p (x ∷ xs) q took none = (took.0, took_all (without p x) xs q took.1 none)

  pub took_stuck : (p : ℕ → Bool) (xs : List ℕ) (q : ℕ → Bool) → Took ov p xs q → (f : ℕ) → q f ≡ true → ((g : ℕ) → MayComeLast ov q g → ⊥) → Stuck ov p xs
  took_stuck p [] q took f left none = ((f, subst (λ r. r f ≡ true) (sym took) left), subst (λ r. (g : ℕ) → MayComeLast ov r g → ⊥) (sym took) none)
  took_stuck p (x ∷ xs) q took f left none = (took.0, took_stuck (without p x) xs q took.1 f left none)

pub orders_stand : OrdersStand
orders_stand n ov p b =
    let ends = ends_by ov n (suc (count p n)) p b (omega arith) in
    record {
      goes_on = λ xs o q w f e. latest ov xs o.fine q (λ g h. sym (o.lists g) ∙ w g h) f e;
      makes = λ xs c. chosen_order ov xs p c;
      refutes = λ xs ys s o. stuck_never ov ys o.fine xs p (λ g h. sym (o.lists g) ∙ h) s;
      ends = ends;
      stuck = λ none. ⊎_elim (λ c. absurd (none c.0 (chosen_order ov c.0 p c.1))) (λ s. s) ends;
      one = λ xs ys. chosen_one ov xs ys p;
    }
