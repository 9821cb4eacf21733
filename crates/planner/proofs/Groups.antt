-- Sets of flows below 64, lists of one value or with one value put in, and groups with one replaced.
use Rattle.std.proofs.Common.{◌≡◌, ℕ, zero, suc, ◌^◌, ◌<◌, true, cond, eqb, List, [], ◌∷◌, length, get_or, set, replicate, sym, ap, ◌∙◌, ⊎_elim}
use Rattle.std.proofs.lemmas.List.{get_or-set_same, get_or-set_other}
use Rattle.std.proofs.lemmas.Float.{T_from_true}
use Rattle.std.proofs.lemmas.Bool.{eq-eqb, ne_eqb, cases_eq, cond-true, cond-false}
use Rattle.planner.specs.FlowSets.{members}
use Rattle.planner.specs.Groups.{overlapping}
use Rattle.planner.specs.declared.flow_sets.FlowSet.{FlowSet}
use Rattle.planner.proofs.Bits.{bit_below}

pub members_below : (s : FlowSet) → s.0 < 2 ^ 64 → (k : ℕ) → members s k ≡ true → k < 64
members_below s fits k e = bit_below 64 s.0 k fits (T_from_true _ e)

-- what holds of a and of the default holds of each element of a list of a alone
pub replicate_holds : {X : Type 0} (P : X → Type 0) (n k : ℕ) (a d : X) → P a → P d → P (get_or (replicate n a) k d)
replicate_holds P zero k a d h e = e
replicate_holds P (suc n) zero a d h e = h
replicate_holds P (suc n) (suc k) a d h e = replicate_holds P n k a d h e

-- what holds of the new value and of the old list at k holds of the new list at k
pub set_holds : {X : Type 0} (P : X → Type 0) (xs : List X) (i k : ℕ) (v d : X) → P v → P (get_or xs k d) → P (get_or (set xs i v) k d)
set_holds P [] i k v d p h = h
set_holds P (x ∷ xs) zero zero v d p h = p
set_holds P (x ∷ xs) zero (suc k) v d p h = h
set_holds P (x ∷ xs) (suc i) zero v d p h = h
set_holds P (x ∷ xs) (suc i) (suc k) v d p h = set_holds P xs i k v d p h

-- one group replaced
pub replaced : (groups : List FlowSet) (i : ℕ) (x : FlowSet) (f g : ℕ) → i < length groups → overlapping (set groups i x) f g ≡ cond (eqb f i) (members x g) (overlapping groups f g)
replaced groups i x f g l =
    ⊎_elim
    (λ (e : f ≡ i).
    ap (λ n. overlapping (set groups i x) n g) e ∙ ap (λ (y : FlowSet). members y g) (get_or-set_same groups i x (record { 0 = 0 }) l)
    ∙ sym (cond-true (eqb f i) (members x g) (overlapping groups f g) (eq-eqb f i e)))
    (λ ne. ap (λ (y : FlowSet). members y g) (get_or-set_other groups i f x (record { 0 = 0 }) ne) ∙ sym (cond-false (eqb f i) (members x g) (overlapping groups f g) (ne_eqb f i ne)))
    (cases_eq f i)
