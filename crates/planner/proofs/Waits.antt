-- The wait among the slots that were looked at so far.
use Rattle.std.proofs.Common.{◌≡◌, ℕ, ◌+◌, ◌-◌, ◌<◌, ◌≤◌, max, Bool, true, false, ◌⊎◌, Some, None, Option, sym, refl, ap, ◌∙◌, subst, inl, inr, ⊎_elim, arith, MatchOption}
use Rattle.std.proofs.lemmas.Bool.{both_ways, cases_order, cases_eq, cases_lt}
use Rattle.planner.specs.Questions.{NextSlot, Wait}

-- the last of the slots r below m
abbrev pub Last : (ℕ → Bool) → ℕ → Option ℕ → Type 0
Last r m None = (x : ℕ) → x < m → r x ≡ false
Last r m (Some b) = (b < m) × (r b ≡ true) × ((x : ℕ) → b < x → x < m → r x ≡ false)

pub record Waited (r : ℕ → Bool) (m d : ℕ) (last : Option ℕ) : Type 0 where
  pub wait : Wait r m d
  pub last_is : Last r m last

pub waited_none : (r : ℕ → Bool) → Waited r 0 0 None
waited_none r = record { wait = record { bounds = λ s u n l. absurd (omega arith); met = inl refl }; last_is = λ x l. absurd (omega arith) }

last_more : (r : ℕ → Bool) (m : ℕ) (last : Option ℕ) → Last r m last → r m ≡ false → Last r (m + 1) last
last_more r m None none out = λ x l. ⊎_elim (λ (e : x ≡ m). ap r e ∙ out) (λ ne. none x (omega arith)) (cases_eq x m)
last_more r m (Some b) so out = (let l = so.0 in omega arith, so.1, λ x low l. ⊎_elim (λ (e : x ≡ m). ap r e ∙ out) (λ ne. so.2 x low (omega arith)) (cases_eq x m))

met_more : (r : ℕ → Bool) (m d : ℕ) → (d ≡ 0) ⊎ ((s : ℕ) × (u : ℕ) × NextSlot r s u × (u < m) × (u ≡ s + d)) → (d ≡ 0) ⊎ ((s : ℕ) × (u : ℕ) × NextSlot r s u × (u < m + 1) × (u ≡ s + d))
met_more r m d (inl none) = inl none
met_more r m d (inr (s, u, n, l, e)) = inr (s, u, n, omega arith, e)

-- m is not one of the slots
pub waited_pass : (r : ℕ → Bool) (m d : ℕ) (last : Option ℕ) → Waited r m d last → r m ≡ false → Waited r (m + 1) d last
waited_pass r m d last so out = record {
  wait = record {
    bounds = λ s u n l. ⊎_elim
        (λ (e : u ≡ m). absurd (both_ways (r u) (ap r e ∙ out) n.to))
        (λ ne. so.wait.bounds s u n (omega arith))
        (cases_eq u m);
    met = met_more r m d so.wait.met;
  };
  last_is = last_more r m last so.last_is out;
}

here_last : (r : ℕ → Bool) (m : ℕ) → r m ≡ true → Last r (m + 1) (Some m)
here_last r m in' = (omega arith, in', λ x low l. absurd (omega arith))

-- only the last slot has m as its next
from_last : (r : ℕ → Bool) (m b s : ℕ) → Last r m (Some b) → NextSlot r s m → s ≡ b
from_last r m b s so n = ⊎_elim
    (λ e. e)
    (⊎_elim
    (λ l. absurd (both_ways (r b) (n.none_between b l so.0) so.1))
    (λ l. absurd (both_ways (r s) (so.2 s l n.later) n.from)))
    (cases_order s b)

-- m is one of the slots
pub waited_take : (r : ℕ → Bool) (m d e : ℕ) (last : Option ℕ) → Waited r m d last → r m ≡ true → MatchOption last (e ≡ d) (λ b. e ≡ max d (m - b)) → Waited r (m + 1) e (Some m)
waited_take r m d e None so in' is = record {
  wait = record {
    bounds = λ s u n l. ⊎_elim
        (λ (at : u ≡ m). let lower = n.later in absurd (both_ways (r s) (so.last_is s (omega arith)) n.from))
        (λ ne. let old = so.wait.bounds s u n (omega arith) in omega arith)
        (cases_eq u m);
    met = met_more r m e (subst (λ x. (x ≡ 0) ⊎ ((s : ℕ) × (u : ℕ) × NextSlot r s u × (u < m) × (u ≡ s + x))) (sym is) so.wait.met);
  };
  last_is = here_last r m in';
}
waited_take r m d e (Some b) so in' is =
    let last = so.last_is in
    let low = last.0 in
    let next : NextSlot r b m = record { later = last.0; from = last.1; to = in'; none_between = last.2 } in
    record {
      wait = record {
        bounds = λ s u n l. ⊎_elim
            (λ (at : u ≡ m). let same = from_last r m b s last (subst (λ x. NextSlot r s x) at n) in omega arith)
            (λ ne. let old = so.wait.bounds s u n (omega arith) in omega arith)
            (cases_eq u m);
        met = ⊎_elim
            (λ (far : d < m - b). let grown : e ≡ m - b = omega arith in inr (b, m, next, omega arith, omega arith))
            (λ (near : m - b ≤ d). let same : e ≡ d = omega arith in met_more r m e (subst (λ x. (x ≡ 0) ⊎ ((s : ℕ) × (u : ℕ) × NextSlot r s u × (u < m) × (u ≡ s + x))) (sym same) so.wait.met))
            (cases_lt d (m - b));
      };
      last_is = here_last r m in';
    }
