-- A flow that is given its earliest valid slots, one slot after the other.
use Rattle.std.proofs.Common.{◌≡◌, ℕ, ◌+◌, ◌≤◌, min, Bool, true, false, cond, ◌&&◌, eqb, ltb, ◌⊎◌, sym, refl, ap, ◌∙◌, subst, ⊎_elim, arith}
use mathlib.Core.Path.{fun_ext}
use Rattle.std.proofs.lemmas.Bool.{and_from, and_left, and_right, eq-eqb, ne_eqb, lt-ltb, le-ltb, cases_eq, cases_lt, cond-true, cond-false}
use Rattle.planner.specs.Slots.{count, free, Earliest, Given}
use Rattle.planner.proofs.Totals.{total_start, total_more, count_mono, firsts}
use Rattle.planner.proofs.Runs.{earliest, earliest_one}
use Rattle.planner.proofs.Tables.{below_more}

-- the slots below m were looked at: in u the flow f has the first d of p among them, and wants `left` more; the others have what they had in t
pub record Giving (t u : ℕ → ℕ → Bool) (f : ℕ) (p : ℕ → Bool) (d m left : ℕ) : Type 0 where
  pub amount : left + min (count p m) d ≡ d
  pub mine : (s : ℕ) → u f s ≡ (firsts p d s && ltb s m)
  pub others : (g s : ℕ) → (g ≡ f → ⊥) → u g s ≡ t g s

module _ (p : ℕ → Bool) (d : ℕ) where
  row_take : (s m : ℕ) → firsts p d m ≡ true → cond (eqb s m) true (firsts p d s && ltb s m) ≡ (firsts p d s && ltb s (m + 1))
  row_take s m here =
      ⊎_elim
      (λ (e : s ≡ m). cond-true (eqb s m) true (firsts p d s && ltb s m) (eq-eqb s m e) ∙ sym (and_from (firsts p d s) (ltb s (m + 1)) (ap (firsts p d) e ∙ here) (lt-ltb s (m + 1) (omega arith))))
      (λ ne. cond-false (eqb s m) true (firsts p d s && ltb s m) (ne_eqb s m ne) ∙ ap (λ b. firsts p d s && b) (sym (below_more s m ne)))
      (cases_eq s m)

  row_pass : (s m : ℕ) → firsts p d m ≡ false → (firsts p d s && ltb s m) ≡ (firsts p d s && ltb s (m + 1))
  row_pass s m here =
      ⊎_elim
      (λ (e : s ≡ m). let none = ap (firsts p d) e ∙ here in and_left (firsts p d s) (ltb s m) none ∙ sym (and_left (firsts p d s) (ltb s (m + 1)) none))
      (λ ne. ap (λ b. firsts p d s && b) (sym (below_more s m ne)))
      (cases_eq s m)

  -- what is looked at past the d-th of p does not count
  row_done : (s m period : ℕ) → m ≤ period → d ≤ count p m → (firsts p d s && ltb s m) ≡ (firsts p d s && ltb s period)
  row_done s m period l full =
      ⊎_elim
      (λ b. ap (λ x. firsts p d s && x) (lt-ltb s m b ∙ sym (lt-ltb s period (omega arith))))
      (λ past.
      let more = count_mono p m s past in
      let none = and_right (p s) (ltb (count p s) d) (le-ltb (count p s) d (omega arith)) in
      and_left (firsts p d s) (ltb s m) none ∙ sym (and_left (firsts p d s) (ltb s period) none))
      (cases_lt s m)

module _ (t : ℕ → ℕ → Bool) (f : ℕ) (p : ℕ → Bool) (d : ℕ) where
  pub giving_start : ((s : ℕ) → t f s ≡ false) → Giving t t f p d 0 d
  giving_start none = record {
    amount = let start = total_start (λ _. 1) p in omega arith;
    mine = λ s. none s ∙ sym (and_right (firsts p d s) (ltb s 0) (le-ltb s 0 (omega arith)));
    others = λ g s ne. refl;
  }

  -- the slot m is valid, and f takes it
  pub giving_take : (u v : ℕ → ℕ → Bool) (m left : ℕ) → Giving t u f p d m (left + 1) → p m ≡ true →
      ((g s : ℕ) → v g s ≡ cond (eqb g f && eqb s m) true (u g s)) → Giving t v f p d (m + 1) left
  giving_take u v m left so ok new =
      let few = so.amount in
      let room : firsts p d m ≡ true = and_from (p m) (ltb (count p m) d) ok (lt-ltb (count p m) d (omega arith)) in
      record {
        amount =
            let more = total_more (λ _. 1) p m in
            let one : ◌≡◌ {A = ℕ} (cond (p m) 1 0) 1 = cond-true (p m) 1 0 ok in
            omega arith;
        mine = λ s. new f s ∙ ap (λ b. cond (b && eqb s m) true (u f s)) (eq-eqb f f refl) ∙ ap (cond (eqb s m) true) (so.mine s) ∙ row_take p d s m room;
        others = λ g s ne. new g s ∙ ap (λ b. cond (b && eqb s m) true (u g s)) (ne_eqb g f ne) ∙ so.others g s ne;
      }

  -- the slot m is not valid
  pub giving_pass : (u : ℕ → ℕ → Bool) (m left : ℕ) → Giving t u f p d m left → p m ≡ false → Giving t u f p d (m + 1) left
  giving_pass u m left so out = record {
    amount =
        let more = total_more (λ _. 1) p m in
        let none : ◌≡◌ {A = ℕ} (cond (p m) 1 0) 0 = cond-false (p m) 1 0 out in
        let so_far = so.amount in
        omega arith;
    mine = λ s. so.mine s ∙ row_pass p d s m (and_left (p m) (ltb (count p m) d) out);
    others = so.others;
  }

-- all slots were looked at, or the demand is met
pub giving_done : (t u : ℕ → ℕ → Bool) (n f : ℕ) (k : ℕ → Bool) (d m left period : ℕ) → Giving t u f (free t n k) d m left → m ≤ period → d ≤ count (free t n k) period →
    (left ≡ 0) ⊎ (m ≡ period) → Given t u n f k d period
giving_done t u n f k d m left period so l enough ends =
    let p = free t n k in
    let amount = so.amount in
    let full : d ≤ count p m = ⊎_elim (λ (e : left ≡ 0). omega arith) (λ (e : m ≡ period). subst (λ x. d ≤ count p x) (sym e) enough) ends in
    let mine : u f ≡ (λ s. firsts p d s && ltb s period) = fun_ext (λ s. so.mine s ∙ row_done p d s m period l full) in
    let new : Earliest p (u f) d period = subst (λ r. Earliest p r d period) (sym mine) (earliest p d period enough) in
    record {
      enough = enough;
      earliest = new;
      others = so.others;
      only = λ r other. earliest_one p r (u f) d period other new;
    }
