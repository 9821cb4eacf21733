-- Members of a row: what they are.
use Rattle.std.proofs.Common.{◌≡◌, ℕ, zero, suc, ◌+◌, ◌-◌, ◌≤◌, Bool, true, false, List, [], ◌∷◌, get_or, Option, sym, refl, ap, subst, inl, inr, arith}
use Rattle.std.specs.List.{filter_map, enumerate_from}
use Rattle.std.specs.Bool.{then_some}
use Rattle.std.proofs.lemmas.Bool.{false≢true}
use Rattle.script.specs.Groups.{members_from, members, Ascending, Among, MembersOf, MembersStand}

-- a number of the row, if it is held
abbrev pub number_held : ℕ × Bool → Option ℕ
number_held (number, held) = then_some held number

pub members_are : (at : ℕ) (row : List Bool) → filter_map number_held (enumerate_from at row) ≡ members_from at row
members_are at [] = refl
members_are at (true ∷ row) = ap (λ l. at ∷ l) (members_are (at + 1) row)
members_are at (false ∷ row) = members_are (at + 1) row

-- the same of a row whose first number is `at`
pub record From (at : ℕ) (row : List Bool) (all : List ℕ) : Type 0 where
  pub ascending : Ascending at all
  pub each : (k : ℕ) → get_or row k false ≡ true → Among (at + k) all
  pub only : (k : ℕ) → Among k all → (at ≤ k) × (get_or row (k - at) false ≡ true)

ascending_less : (at : ℕ) (all : List ℕ) → Ascending (at + 1) all → Ascending at all
ascending_less at [] rises = tt
ascending_less at (n ∷ more) rises = (omega (arith, rises.0), rises.1)

-- one number before them
before : (at : ℕ) (b : Bool) (row : List Bool) (k : ℕ) → get_or row (k - (at + 1)) false ≡ true → at + 1 ≤ k → (at ≤ k) × (get_or (b ∷ row) (k - at) false ≡ true)
before at b row k held later =
    let step : suc (k - (at + 1)) ≡ k - at = omega arith in
    (omega arith, subst (λ j. get_or (b ∷ row) j false ≡ true) step held)

each_later : (at : ℕ) (row : List Bool) (all : List ℕ) → From (at + 1) row all → (k : ℕ) → get_or row k false ≡ true → Among (at + suc k) all
each_later at row all is k held = subst (λ j. Among j all) (omega arith) (is.each k held)

from : (at : ℕ) (row : List Bool) → From at row (members_from at row)
from at [] = record { ascending = tt; each = λ k held. absurd (false≢true held); only = λ k among. absurd among }
from at (true ∷ row) =
    let more = from (at + 1) row in
    record { ascending = (omega arith, more.ascending); each = each' more; only = only' more }
  where
    each' : From (at + 1) row (members_from (at + 1) row) → (k : ℕ) → get_or (true ∷ row) k false ≡ true → Among (at + k) (at ∷ members_from (at + 1) row)
    each' more zero held = inl (omega arith)
    each' more (suc k) held = inr (each_later at row _ more k held)

    only' : From (at + 1) row (members_from (at + 1) row) → (k : ℕ) → Among k (at ∷ members_from (at + 1) row) → (at ≤ k) × (get_or (true ∷ row) (k - at) false ≡ true)
    only' more k (inl same) =
        let none : 0 ≡ k - at = omega arith in
        (omega arith, subst (λ j. get_or (true ∷ row) j false ≡ true) none refl)
    only' more k (inr among) = let later = more.only k among in before at true row k later.1 later.0
from at (false ∷ row) =
    let more = from (at + 1) row in
    record { ascending = ascending_less at _ more.ascending; each = each' more; only = λ k among. let later = more.only k among in before at false row k later.1 later.0 }
  where
    each' : From (at + 1) row (members_from (at + 1) row) → (k : ℕ) → get_or (false ∷ row) k false ≡ true → Among (at + k) (members_from (at + 1) row)
    each' more zero held = absurd (false≢true held)
    each' more (suc k) held = each_later at row _ more k held

least : (low k : ℕ) (all : List ℕ) → Ascending low all → Among k all → low ≤ k
least low k [] rises among = absurd among
least low k (n ∷ more) rises (inl same) = omega (arith, rises.0)
least low k (n ∷ more) rises (inr among) = omega (arith, rises.0, least (n + 1) k more rises.1 among)

one_list : (low high : ℕ) (us vs : List ℕ) → Ascending low us → Ascending high vs → ((k : ℕ) → Among k us → Among k vs) → ((k : ℕ) → Among k vs → Among k us) → us ≡ vs
one_list low high [] [] ru rv to back = refl
one_list low high [] (v ∷ vs) ru rv to back = absurd (back v (inl refl))
one_list low high (u ∷ us) [] ru rv to back = absurd (to u (inl refl))
one_list low high (u ∷ us) (v ∷ vs) ru rv to back =
    let same : u ≡ v = first (to u (inl refl)) (back v (inl refl)) in
    let rest = one_list (u + 1) (v + 1) us vs ru.1 rv.1 (λ k among. other k v vs (least (u + 1) k us ru.1 among) same (to k (inr among))) (λ k among. other k u us (least (v + 1) k vs rv.1 among) (sym same) (back k (inr among))) in
    (λ i. same i ∷ rest i)
  where
    first : Among u (v ∷ vs) → Among v (u ∷ us) → u ≡ v
    first (inl e) q = e
    first (inr a) (inl e) = sym e
    first (inr a) (inr b) = absurd (omega (arith, least (v + 1) u vs rv.1 a, least (u + 1) v us ru.1 b))

    other : (k n : ℕ) (more : List ℕ) {m : ℕ} → m + 1 ≤ k → m ≡ n → Among k (n ∷ more) → Among k more
    other k n more less e (inl same) = absurd (omega arith)
    other k n more less e (inr among) = among

pub stand : MembersStand
stand row =
    let whole = from 0 row in
    let is : MembersOf row (members row) = record { ascending = whole.ascending; each = λ k held. subst (λ j. Among j (members row)) (omega arith) (whole.each k held); only = λ k among. subst (λ j. get_or row j false ≡ true) (omega arith) (whole.only k among).1 } in
    (is, λ others other. one_list 0 0 others (members row) other.ascending is.ascending (λ k among. is.each k (other.only k among)) (λ k among. other.each k (is.only k among)))
