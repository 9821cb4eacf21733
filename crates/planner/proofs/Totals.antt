-- Sums and counts over a set.
use Rattle.std.proofs.Common.{◌≡◌, ℕ, zero, suc, ◌+◌, ◌<◌, ◌≤◌, min, Bool, true, false, cond, not, ◌&&◌, ◌||◌, eqb, ltb, sym, refl, ap, ◌∙◌, subst, ⊎_elim, add-one, arith}
use Rattle.std.proofs.lemmas.Bool.{eqb-true, eq-eqb, ne_eqb, cases_Bool, cases_eq, cases_lt, cond-true, cond-false, cond_both, ltb-true, ltb-false}
use Rattle.planner.specs.Orders.{without}
use Rattle.planner.specs.Slots.{total, count}
use Rattle.planner.proofs.Sets.{without_parts}

pub total_start : (d : ℕ → ℕ) (p : ℕ → Bool) → total d p 0 ≡ 0
unfolding total
total_start d p = refl

-- one number more
pub total_more : (d : ℕ → ℕ) (p : ℕ → Bool) (n : ℕ) → total d p (n + 1) ≡ total d p n + cond (p n) (d n) 0
unfolding total
total_more d p n = ap (total d p) (add-one n) ∙ omega arith

or_apart : (a b : Bool) (x : ℕ) → (a ≡ true → b ≡ true → ⊥) → cond (a || b) x 0 ≡ cond a x 0 + cond b x 0
or_apart true true x apart = absurd (apart refl refl)
or_apart true false x apart = omega arith
or_apart false b x apart = omega arith

-- the sum over two sets that share nothing
pub total_or : (d : ℕ → ℕ) (p q : ℕ → Bool) (n : ℕ) → ((k : ℕ) → k < n → p k ≡ true → q k ≡ true → ⊥) → total d (λ k. p k || q k) n ≡ total d p n + total d q n
unfolding total
total_or d p q zero apart = refl
total_or d p q (suc n) apart =
    let below = total_or d p q n (λ k b. apart k (omega arith)) in
    let here = or_apart (p n) (q n) (d n) (apart n (omega arith)) in
    omega arith

pub total_same : (d : ℕ → ℕ) (p q : ℕ → Bool) (n : ℕ) → ((k : ℕ) → k < n → p k ≡ q k) → total d p n ≡ total d q n
unfolding total
total_same d p q zero same = refl
total_same d p q (suc n) same =
    let below = total_same d p q n (λ k b. same k (omega arith)) in
    let here : cond (p n) (d n) 0 ≡ cond (q n) (d n) 0 = ap (λ b. cond b (d n) 0) (same n (omega arith)) in
    omega arith

pub total_none : (d : ℕ → ℕ) (p : ℕ → Bool) (n : ℕ) → ((k : ℕ) → k < n → p k ≡ false) → total d p n ≡ 0
unfolding total
total_none d p zero none = refl
total_none d p (suc n) none =
    let below = total_none d p n (λ k b. none k (omega arith)) in
    let here = cond-false (p n) (d n) 0 (none n (omega arith)) in
    omega arith

-- the sum over one member
pub total_one : (d : ℕ → ℕ) (f n : ℕ) → f < n → total d (λ g. eqb g f) n ≡ d f
unfolding total
total_one d f zero b = absurd (omega arith)
total_one d f (suc n) b =
    ⊎_elim
    (λ (e : n ≡ f).
    let here = cond-true (eqb n f) (d n) 0 (eq-eqb n f e) in
    let below = total_none d (λ g. eqb g f) n (λ k l. ne_eqb k f (λ (s : k ≡ f). omega arith)) in
    let same = ap d e in
    omega arith)
    (λ ne.
    let here = cond-false (eqb n f) (d n) 0 (ne_eqb n f ne) in
    let below = total_one d f n (omega arith) in
    omega arith)
    (cases_eq n f)

-- a set, and the set with one member out
split_at : (p : ℕ → Bool) (f g : ℕ) → p f ≡ true → p g ≡ (eqb g f || without p f g)
split_at p f g in' = split (p g) (eqb g f) (λ e. subst (λ x. p x ≡ true) (sym (eqb-true g f e)) in')
  where
    split : (a b : Bool) → (b ≡ true → a ≡ true) → a ≡ (b || (a && not b))
    split true true h = refl
    split true false h = refl
    split false true h = h refl
    split false false h = refl

pub total_without : (d : ℕ → ℕ) (p : ℕ → Bool) (f n : ℕ) → f < n → p f ≡ true → total d p n ≡ d f + total d (without p f) n
total_without d p f n b in' =
    let parts = total_same d p (λ g. eqb g f || without p f g) n (λ g _. split_at p f g in') in
    let joined = total_or d (λ g. eqb g f) (without p f) n (λ g _ e w. (without_parts p f g w).1 (eqb-true g f e)) in
    let one = total_one d f n b in
    omega arith

not_counts : (a : Bool) → ◌≡◌ {A = ℕ} (cond a 1 0 + cond (not a) 1 0) 1
not_counts true = refl
not_counts false = refl

-- a set and its complement
pub count_not : (p : ℕ → Bool) (n : ℕ) → count p n + count (λ k. not (p k)) n ≡ n
unfolding total
count_not p zero = refl
count_not p (suc n) =
    let below = count_not p n in
    let here = not_counts (p n) in
    omega arith

pub count_le : (p : ℕ → Bool) (n : ℕ) → count p n ≤ n
count_le p n = omega (arith, count_not p n)

-- every number below n is in p
pub count_all : (p : ℕ → Bool) (n : ℕ) → ((k : ℕ) → k < n → p k ≡ true) → count p n ≡ n
unfolding total
count_all p zero all = refl
count_all p (suc n) all =
    let below = count_all p n (λ k b. all k (omega arith)) in
    let here : ◌≡◌ {A = ℕ} (cond (p n) 1 0) 1 = cond-true (p n) 1 0 (all n (omega arith)) in
    omega arith

count_past : (p : ℕ → Bool) (a b : ℕ) → ((s : ℕ) → p s ≡ true → s < a) → a ≤ b → count p b ≡ count p a
unfolding total
count_past p a zero in' l = let e : a ≡ 0 = omega arith in ap (count p) (sym e)
count_past p a (suc b) in' l =
    ⊎_elim
    (λ (e : a ≡ suc b). ap (count p) (sym e))
    (λ ne.
    let here : ◌≡◌ {A = ℕ} (cond (p b) 1 0) 0 = ⊎_elim (λ y. absurd (let h = in' b y in omega arith)) (cond-false (p b) 1 0) (cases_Bool (p b)) in
    let below = count_past p a b in' (omega arith) in
    omega arith)
    (cases_eq a (suc b))

-- two bounds of a set count it alike
pub count_bounds : (p : ℕ → Bool) (a b : ℕ) → ((s : ℕ) → p s ≡ true → s < a) → ((s : ℕ) → p s ≡ true → s < b) → count p a ≡ count p b
count_bounds p a b in-a in_b = ⊎_elim (λ l. sym (count_past p a b in-a (omega arith))) (λ l. count_past p b a in_b l) (cases_lt a b)

pub count_mono : (p : ℕ → Bool) (a b : ℕ) → a ≤ b → count p a ≤ count p b
unfolding total
count_mono p a zero l = let e : a ≡ 0 = omega arith in subst (λ x. count p x ≤ 0) (sym e) (omega arith)
count_mono p a (suc b) l =
    ⊎_elim
    (λ (e : a ≡ suc b). subst (λ x. count p x ≤ count p (suc b)) (sym e) (omega arith))
    (λ ne. let below = count_mono p a b (omega arith) in omega arith)
    (cases_eq a (suc b))

part_here : (a b : Bool) → (a ≡ true → b ≡ true) → cond a 1 0 ≤ cond b 1 0
part_here false b h = omega arith
part_here true b h = let e : ◌≡◌ {A = ℕ} (cond b 1 0) 1 = cond-true b 1 0 (h refl) in omega arith

pub count_part : (p q : ℕ → Bool) (n : ℕ) → ((k : ℕ) → k < n → p k ≡ true → q k ≡ true) → count p n ≤ count q n
unfolding total
count_part p q zero part = omega arith
count_part p q (suc n) part =
    let below = count_part p q n (λ k b. part k (omega arith)) in
    let here = part_here (p n) (q n) (part n (omega arith)) in
    omega arith

-- the first d of p
abbrev pub firsts : (ℕ → Bool) → ℕ → ℕ → Bool
firsts p d s = p s && ltb (count p s) d

firsts_here : (b : Bool) (c d : ℕ) → cond (b && ltb c d) 1 0 + min c d ≡ min (cond b 1 0 + c) d
firsts_here false c d = omega arith
firsts_here true c d = cond_both (ltb c d) 1 0 (λ x. x + min c d ≡ min (1 + c) d) (λ e. omega (arith, ltb-true c d e)) (λ e. omega (arith, ltb-false c d e))

pub count_firsts : (p : ℕ → Bool) (d n : ℕ) → count (firsts p d) n ≡ min (count p n) d
unfolding total
count_firsts p d zero = omega arith
count_firsts p d (suc n) =
    let below = count_firsts p d n in
    let here = firsts_here (p n) (count p n) d in
    omega arith

-- a set that has more below n than another has a member that the other lacks
more_here : (p q : ℕ → Bool) (n : ℕ) (a b : Bool) → p n ≡ a → q n ≡ b → cond b 1 0 + count q n < cond a 1 0 + count p n →
    (count q n < count p n → (k : ℕ) × (p k ≡ true) × (q k ≡ false)) → (k : ℕ) × (p k ≡ true) × (q k ≡ false)
more_here p q n true false pn qn more below = (n, pn, qn)
more_here p q n true true pn qn more below = below (omega arith)
more_here p q n false b pn qn more below = below (omega arith)

pub count_more : (p q : ℕ → Bool) (n : ℕ) → count q n < count p n → (k : ℕ) × (p k ≡ true) × (q k ≡ false)
unfolding total
count_more p q zero more = absurd (omega arith)
count_more p q (suc n) more = more_here p q n (p n) (q n) refl refl more (count_more p q n)
