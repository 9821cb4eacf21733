-- What the choice of an order leaves.
use Rattle.std.proofs.Common.{◌≡◌, ℕ, suc, ◌<◌, Bool, true, false, cond, not, ◌&&◌, ◌||◌, eqb, List, [], ◌∷◌, ◌++◌, sym, refl, ap, ◌∙◌, subst, ⊎_elim, arith}
use mathlib.Core.Path.{fun_ext}
use Rattle.std.proofs.lemmas.Bool.{both_ways, and_from, and_parts, cases_Bool}
use Rattle.planner.specs.Orders.{Within, Below, without, beside, has, Order, MayComeLast, ChosenLast, Chosen, Stuck, StuckWith, Remains}
use Rattle.planner.specs.Slots.{count}
use Rattle.planner.proofs.Choices.{beside_within, overlap_within, Took, took_push, took_all, took_stuck, orders_stand}
use Rattle.planner.proofs.Sets.{without_from, without_parts, decide_bool, highest}
use Rattle.planner.proofs.Totals.{total_same, total_without}

out_of_both : (a b c : Bool) → ((a && not b) && not c) ≡ (a && not (b || c))
out_of_both true true c = refl
out_of_both true false c = refl
out_of_both false b c = refl

removed : (b x : Bool) → cond b false x ≡ (x && not b)
removed true true = refl
removed true false = refl
removed false true = refl
removed false false = refl

all_stays : (a : Bool) → a ≡ (a && not false)
all_stays true = refl
all_stays false = refl

-- some member, where a test for none says no
pub some_member : (n : ℕ) (q : ℕ → Bool) (empty : Bool) → Below n q → (((k : ℕ) → q k ≡ false) → empty ≡ true) → empty ≡ false → (f : ℕ) × (q f ≡ true)
some_member n q empty below only no' =
    ⊎_elim
    (λ found. (found.0, found.1.holds))
    (λ none. absurd (both_ways empty no' (only (λ k. ⊎_elim (λ e. absurd (none k (below k e) e)) (λ e. e) (cases_Bool (q k))))))
    (highest (λ f. q f ≡ true) (λ f. decide_bool (q f)) n)

-- q' is q without f
module _ (q q' : ℕ → Bool) (f : ℕ) (put_aside : (k : ℕ) → q' k ≡ cond (eqb k f) false (q k)) where
  is_without : (k : ℕ) → q' k ≡ without q f k
  is_without k = put_aside k ∙ removed (eqb k f) (q k)

  pub one_fewer : (n : ℕ) → f < n → q f ≡ true → count q n ≡ suc (count q' n)
  one_fewer n l in' =
      let fewer = total_without (λ _. 1) q f n l in' in
      let same = total_same (λ _. 1) q' (without q f) n (λ k _. is_without k) in
      omega arith

  pub took_more : (ov : ℕ → ℕ → Bool) (p : ℕ → Bool) (xs ys : List ℕ) → Took ov p xs q → ChosenLast ov q f → ys ≡ xs ++ f ∷ [] → Took ov p ys q'
  took_more ov p xs ys took last put =
      subst (λ zs. Took ov p zs q') (sym put)
      (subst (λ r. Took ov p (xs ++ f ∷ []) r) (sym (fun_ext is_without)) (took_push ov p xs q f took last))

module _ (ov : ℕ → ℕ → Bool) where
  took_left : (p : ℕ → Bool) (xs : List ℕ) (q : ℕ → Bool) → Took ov p xs q → (f : ℕ) → q f ≡ (p f && not (has xs f))
  took_left p [] q took f = ap (λ r. r f) (sym took) ∙ all_stays (p f)
  took_left p (x ∷ xs) q took f = took_left (without p x) xs q took.1 f ∙ out_of_both (p f) (eqb f x) (has xs f)

  pub took_within : (p : ℕ → Bool) (xs : List ℕ) (q : ℕ → Bool) → Took ov p xs q → Within q p
  took_within p xs q took f in' = (and_parts (p f) (not (has xs f)) (sym (took_left p xs q took f) ∙ in')).0

  -- what may come last of a set may come last of each part that has it
  last_within : (k p : ℕ → Bool) (f : ℕ) → Within k p → k f ≡ true → MayComeLast ov p f → MayComeLast ov k f
  last_within k p f w in' last = (
    in',
    overlap_within ov (beside ov (without k f) f) (beside ov (without p f) f)
        (beside_within ov (without k f) (without p f) f (λ g e. without_from p f g (w g (without_parts k f g e).0) (without_parts k f g e).1))
        last.1,
  )

  -- so what has none that may come last is never chosen from
  stays : (k : ℕ → Bool) → ((f : ℕ) → MayComeLast ov k f → ⊥) → (xs : List ℕ) (p : ℕ → Bool) → Stuck ov p xs → Within k p → (f : ℕ) → k f ≡ true → (p f && not (has xs f)) ≡ true
  stays k none [] p s w f in' = and_from (p f) true (w f in') refl
  stays k none (x ∷ xs) p s w f in' =
      sym (out_of_both (p f) (eqb f x) (has xs f))
      ∙ stays k none xs (without p x) s.1
      (λ g kg. without_from p x g (w g kg) (λ (e : g ≡ x). none x (last_within k p x w (subst (λ h. k h ≡ true) e kg) s.0.0))) f in'

  stuck_most : (p : ℕ → Bool) (xs : List ℕ) (q : ℕ → Bool) → StuckWith ov p xs q → (k : ℕ → Bool) → Within k p → ((f : ℕ) → MayComeLast ov k f → ⊥) → Within k q
  stuck_most p xs q s k w none f in' = s.left f ∙ stays k none xs p s.stuck w f in'

  left_within : (p : ℕ → Bool) (xs : List ℕ) (q : ℕ → Bool) → StuckWith ov p xs q → Within q p
  left_within p xs q s f in' = (and_parts (p f) (not (has xs f)) (sym (s.left f) ∙ in')).0

  same_members : (q r : ℕ → Bool) → Within q r → Within r q → (f : ℕ) → q f ≡ r f
  same_members q r w v f = ⊎_elim (λ e. e ∙ sym (w f e)) (λ e. ⊎_elim (λ e'. absurd (both_ways (q f) e (v f e'))) (λ e'. e ∙ sym e') (cases_Bool (r f))) (cases_Bool (q f))

  pub took_remains : (n : ℕ) (p : ℕ → Bool) (xs : List ℕ) (q : ℕ → Bool) → Below n p → Took ov p xs q → (f : ℕ) × (q f ≡ true) → ((f : ℕ) → MayComeLast ov q f → ⊥) → Remains ov p q
  took_remains n p xs q b took some none =
      let s : StuckWith ov p xs q = record { stuck = took_stuck ov p xs q took some.0 some.1 none; left = took_left p xs q took; some = some; none = none } in
      record {
        chosen = xs;
        stuck = s;
        no_order = λ ys. (orders_stand n ov p b).refutes xs ys s.stuck;
        most = stuck_most p xs q s;
        one = λ ys r t. same_members r q (stuck_most p xs q s r (left_within p ys r t) t.none) (stuck_most p ys r t q (left_within p xs q s) none);
      }

  pub took_chosen : (n : ℕ) (p : ℕ → Bool) (xs : List ℕ) (q : ℕ → Bool) → Below n p → Took ov p xs q → ((f : ℕ) → q f ≡ false) → Chosen ov p xs × Order ov p xs
  took_chosen n p xs q b took none =
      let c = took_all ov p xs q took none in
      (c, (orders_stand n ov p b).makes xs c)
