-- Groups of flows in which two flows are joined, or a flow is parted from the others.
use Rattle.std.proofs.Common.{◌≡◌, ℕ, ◌<◌, Bool, true, false, cond, ◌&&◌, ◌||◌, eqb, List, length, set, sym, refl, ap, ◌∙◌, ⊎_elim, arith}
use mathlib.Core.Bool.{and_comm, or_comm}
use Rattle.std.proofs.lemmas.List.{length-set}
use Rattle.std.proofs.lemmas.Bool.{true≢false, ne_eqb, eqb-true, and_left, and_right, or_from, cases_eq, cond-false}
use Rattle.planner.specs.declared.flow_sets.FlowSet.{FlowSet}
use Rattle.planner.specs.FlowSets.{members}
use Rattle.planner.specs.Groups.{overlapping, is_pair}
use Rattle.planner.proofs.Groups.{replaced}

-- which of the two flows f and g are, and what overlapped before
pair_cases : (fo ft go gt old : Bool) → (fo ≡ true → ft ≡ false) → cond ft (cond go true old) (cond fo (cond gt true old) old) ≡ (fo && gt || ft && go || old)
pair_cases true true go gt old apart = absurd (true≢false (apart refl))
pair_cases true false go true old apart = refl
pair_cases true false go false old apart = refl
pair_cases false true true gt old apart = refl
pair_cases false true false gt old apart = refl
pair_cases false false go gt old apart = refl

-- the first of two values counts only where the test is true
cond_when : (b u v w : Bool) → (b ≡ true → u ≡ v) → cond b u w ≡ cond b v w
cond_when true u v w same = same refl
cond_when false u v w same = refl

module _ (groups : List FlowSet) (one other : ℕ) (x y : FlowSet) (l : one < length groups) (m : other < length groups) (apart : one ≡ other → ⊥)
    (x_is : (k : ℕ) → members x k ≡ cond (eqb k other) true (overlapping groups one k))
    (y_is : (k : ℕ) → members y k ≡ cond (eqb k one) true (overlapping (set groups one x) other k)) where
  pub joined : (f g : ℕ) → overlapping (set (set groups one x) other y) f g ≡ (is_pair one other f g || overlapping groups f g)
  joined f g =
      let old = overlapping groups f g in
      let second : other < length (set groups one x) = simp length-set (omega arith) in
      let kept : overlapping (set groups one x) other g ≡ overlapping groups other g =
      replaced groups one x other g l ∙ cond-false (eqb other one) (members x g) (overlapping groups other g) (ne_eqb other one (λ e. apart (sym e))) in
      replaced (set groups one x) other y f g second
      ∙ cond_when (eqb f other) (members y g) (cond (eqb g one) true old) (overlapping (set groups one x) f g)
      (λ e. y_is g ∙ ap (cond (eqb g one) true) (kept ∙ ap (λ n. overlapping groups n g) (sym (eqb-true f other e))))
      ∙ ap (cond (eqb f other) (cond (eqb g one) true old))
      (replaced groups one x f g l
      ∙ cond_when (eqb f one) (members x g) (cond (eqb g other) true old) old
      (λ e. x_is g ∙ ap (λ n. cond (eqb g other) true (overlapping groups n g)) (sym (eqb-true f one e))))
      ∙ pair_cases (eqb f one) (eqb f other) (eqb g one) (eqb g other) old (λ e. ne_eqb f other (λ same. apart (sym (eqb-true f one e) ∙ same)))

-- a pair has no direction
pair_turns : (one other f g : ℕ) → is_pair one other f g ≡ is_pair one other g f
pair_turns one other f g =
    ap (λ b. b || eqb f other && eqb g one) (and_comm (eqb f one) (eqb g other)) ∙ ap (λ b. eqb g other && eqb f one || b) (and_comm (eqb f other) (eqb g one))
    ∙ or_comm (eqb g other && eqb f one) (eqb g one && eqb f other)

-- and is of two flows
pair_apart : (one other f : ℕ) → (one ≡ other → ⊥) → is_pair one other f f ≡ false
pair_apart one other f apart =
    ⊎_elim
    (λ (e : f ≡ one).
    let not_other = ne_eqb f other (λ same. apart (sym e ∙ same)) in
    or_from (eqb f one && eqb f other) (eqb f other && eqb f one) (and_right (eqb f one) (eqb f other) not_other) (and_left (eqb f other) (eqb f one) not_other))
    (λ ne.
    let not_one = ne_eqb f one ne in
    or_from (eqb f one && eqb f other) (eqb f other && eqb f one) (and_left (eqb f one) (eqb f other) not_one) (and_right (eqb f other) (eqb f one) not_one))
    (cases_eq f one)

-- what joining and parting keep, over any groups
pub record Mutual (ov : ℕ → ℕ → Bool) : Type 0 where
  pub symmetric : (f g : ℕ) → ov f g ≡ ov g f
  pub apart : (f : ℕ) → ov f f ≡ false

pub joined_mutual : (one other : ℕ) (ov new : ℕ → ℕ → Bool) → (one ≡ other → ⊥) → ((f g : ℕ) → ov f g ≡ ov g f) → ((f : ℕ) → ov f f ≡ false) →
    ((f g : ℕ) → new f g ≡ (is_pair one other f g || ov f g)) → Mutual new
joined_mutual one other ov new apart turns none is = record {
  symmetric = λ f g. is f g ∙ ap (λ b. b || ov f g) (pair_turns one other f g) ∙ ap (λ b. is_pair one other g f || b) (turns f g) ∙ sym (is g f);
  apart = λ f. is f f ∙ or_from (is_pair one other f f) (ov f f) (pair_apart one other f apart) (none f);
}

pub parted_mutual : (flow : ℕ) (ov new : ℕ → ℕ → Bool) → ((f g : ℕ) → ov f g ≡ ov g f) → ((f : ℕ) → ov f f ≡ false) →
    ((f g : ℕ) → new f g ≡ cond (eqb f flow || eqb g flow) false (ov f g)) → Mutual new
parted_mutual flow ov new turns none is = record {
  symmetric = λ f g. is f g ∙ ap (λ b. cond b false (ov f g)) (or_comm (eqb f flow) (eqb g flow)) ∙ ap (cond (eqb g flow || eqb f flow) false) (turns f g) ∙ sym (is g f);
  apart = λ f. is f f ∙ ap (cond (eqb f flow || eqb f flow) false) (none f) ∙ never (eqb f flow || eqb f flow);
}
  where
    never : (b : Bool) → cond b false false ≡ false
    never true = refl
    never false = refl

-- a flow is taken out of every group, and its own group is emptied
pub parted : (groups old : List FlowSet) (flow : ℕ) (x : FlowSet) → flow < length groups → ((g : ℕ) → members x g ≡ false) →
    ((f g : ℕ) → overlapping groups f g ≡ cond (eqb g flow) false (overlapping old f g)) →
    (f g : ℕ) → overlapping (set groups flow x) f g ≡ cond (eqb f flow || eqb g flow) false (overlapping old f g)
parted groups old flow x l none is f g = replaced groups flow x f g l ∙ split (eqb f flow) (eqb g flow) (members x g) (overlapping groups f g) (overlapping old f g) (none g) (is f g)
  where
    split : (b w u v r : Bool) → u ≡ false → v ≡ cond w false r → cond b u v ≡ cond (b || w) false r
    split true w u v r e h = e
    split false w u v r e h = h
