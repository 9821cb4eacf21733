-- Tables of slots, what they hold, and how flows are placed in them.
-- A table t has the slot s for the flow f where t f s ≡ true.
use Rattle.std.specs.Prelude.{◌≡◌, ℕ, zero, suc, ◌+◌, ◌<◌, ◌≤◌, Bool, true, false, cond, not, ◌&&◌, ◌||◌, ◌⊎◌, List, [], ◌∷◌, ◌≢◌}
use Rattle.planner.specs.Orders.{Within, Below, plus, beside, AllOverlap, has, Orderly, Order}

-- the sum of d over the members of p below n
unfoldable pub total : (ℕ → ℕ) → (ℕ → Bool) → ℕ → ℕ
total d p zero = 0
total d p (suc n) = cond (p n) (d n) 0 + total d p n

-- how many numbers below n are in p
abbrev pub count : (ℕ → Bool) → ℕ → ℕ
count p n = total (λ _. 1) p n

-- some number below n is in p
unfoldable pub some_below : (ℕ → Bool) → ℕ → Bool
some_below p zero = false
some_below p (suc n) = p n || some_below p n

-- some flow of k, of those below n, holds the slot s
abbrev pub taken : (ℕ → ℕ → Bool) → ℕ → (ℕ → Bool) → ℕ → Bool
taken t n k s = some_below (λ f. k f && t f s) n

-- none does
abbrev pub free : (ℕ → ℕ → Bool) → ℕ → (ℕ → Bool) → ℕ → Bool
free t n k s = not (taken t n k s)

-- what is to be placed: flows, numbered below `flows`, each of which wants `demand` slots of a ring of `period`
pub record Load : Type 0 where
  pub flows : ℕ
  pub overlap : ℕ → ℕ → Bool
  pub demand : ℕ → ℕ
  pub period : ℕ
  pub symmetric : (f g : ℕ) → overlap f g ≡ overlap g f

-- t is a placing of the flows of p
pub record Placing (load : Load) (p : ℕ → Bool) (t : ℕ → ℕ → Bool) : Type 0 where
  pub amount : (f : ℕ) → p f ≡ true → count (t f) load.period ≡ load.demand f
  pub inside : (f s : ℕ) → p f ≡ true → t f s ≡ true → s < load.period
  pub apart : (f g s : ℕ) → p f ≡ true → p g ≡ true → (f ≢ g) → load.overlap f g ≡ true → t f s ≡ true → t g s ≢ true

-- a choice of d slots of a period of m
pub record ChoiceOf (d m : ℕ) (choice : ℕ → Bool) : Type 0 where
  pub amount : count choice m ≡ d
  pub inside : (s : ℕ) → choice s ≡ true → s < m

-- r is the d earliest of the slots p below m
pub record Earliest (p r : ℕ → Bool) (d m : ℕ) : Type 0 where
  pub amount : count r m ≡ d
  pub inside : (s : ℕ) → r s ≡ true → s < m
  pub valid : (s : ℕ) → r s ≡ true → p s ≡ true
  pub packed : (s u : ℕ) → s < u → r u ≡ true → p s ≡ true → r s ≡ true

-- the d earliest slots of p can be taken exactly where there are d, and in one way
pub record Firsts (p : ℕ → Bool) (d m : ℕ) : Type 0 where
  pub some : d ≤ count p m → (r : ℕ → Bool) × Earliest p r d m
  pub enough : (r : ℕ → Bool) → Earliest p r d m → d ≤ count p m
  pub one : (q r : ℕ → Bool) → Earliest p q d m → Earliest p r d m → (s : ℕ) → q s ≡ r s

abbrev pub EarliestStands : Type 0
EarliestStands = (p : ℕ → Bool) (d m : ℕ) → Firsts p d m

-- the flow f was given the d earliest of the slots below m that no flow of k, of those below n, held in t: it holds them in u, and the others hold what they held
pub record Given (t u : ℕ → ℕ → Bool) (n f : ℕ) (k : ℕ → Bool) (d m : ℕ) : Type 0 where
  pub enough : d ≤ count (free t n k) m
  pub earliest : Earliest (free t n k) (u f) d m
  pub others : (g s : ℕ) → (g ≢ f) → u g s ≡ t g s
  -- nothing else would have been the earliest
  pub only : (r : ℕ → Bool) → Earliest (free t n k) r d m → (s : ℕ) → r s ≡ u f s

-- the flows of es that overlap f
abbrev pub rivals : Load → ℕ → List ℕ → ℕ → Bool
rivals load f es = beside load.overlap (has es) f

-- the slots that are valid for f after es: no flow of es that overlaps f holds them
abbrev pub valid_for : Load → (ℕ → ℕ → Bool) → ℕ → List ℕ → ℕ → Bool
valid_for load t f es = free t load.flows (rivals load f es)

-- each flow of the list has its earliest valid slots, after those behind it in the list
abbrev pub Greedy : Load → (ℕ → ℕ → Bool) → List ℕ → Type 0
Greedy load t [] = Unit {0}
Greedy load t (f ∷ es) = Earliest (valid_for load t f es) (t f) (load.demand f) load.period × Greedy load t es

-- f finds too few valid slots
abbrev pub Short : Load → (ℕ → ℕ → Bool) → ℕ → List ℕ → Type 0
Short load t f es = count (valid_for load t f es) load.period < load.demand f

-- some flow of the list finds too few, after those before it were placed
abbrev pub FallsShort : Load → (ℕ → ℕ → Bool) → List ℕ → Type 0
FallsShort load t [] = ⊥
FallsShort load t (f ∷ es) = (Greedy load t es × Short load t f es) ⊎ FallsShort load t es

-- flows of p that all overlap
pub record Together (load : Load) (p k : ℕ → Bool) : Type 0 where
  -- a placing gives them as many slots as they demand together
  pub held : (t : ℕ → ℕ → Bool) → Placing load p t → count (taken t load.flows k) load.period ≡ total load.demand k load.flows
  pub fits : (t : ℕ → ℕ → Bool) → Placing load p t → total load.demand k load.flows ≤ load.period
  -- so where they demand too much there is none
  pub crowded : load.period < total load.demand k load.flows → (t : ℕ → ℕ → Bool) → Placing load p t → ⊥

abbrev pub SumsStand : Type 0
SumsStand = (load : Load) (p k : ℕ → Bool) → Within k p → AllOverlap load.overlap k → Together load p k

-- the flow f, after the flows es were placed
pub record Next (load : Load) (t : ℕ → ℕ → Bool) (f : ℕ) (es : List ℕ) : Type 0 where
  pub all_overlap : AllOverlap load.overlap (plus (rivals load f es) f)
  pub valid : count (valid_for load t f es) load.period + total load.demand (rivals load f es) load.flows ≡ load.period
  pub too_much : Short load t f es → load.period < load.demand f + total load.demand (rivals load f es) load.flows
  pub too_few : load.period < load.demand f + total load.demand (rivals load f es) load.flows → Short load t f es
  pub hopeless : Short load t f es → (p : ℕ → Bool) → Within (has (f ∷ es)) p → (u : ℕ → ℕ → Bool) → Placing load p u → ⊥

abbrev pub StepsStand : Type 0
StepsStand = (load : Load) (t : ℕ → ℕ → Bool) (f : ℕ) (es : List ℕ) →
    Below load.flows (has (f ∷ es)) → Orderly load.overlap (f ∷ es) → Greedy load t es → Next load t f es

-- the greedy along the order xs of p
pub record Along (load : Load) (p : ℕ → Bool) (xs : List ℕ) : Type 0 where
  pub places : (t : ℕ → ℕ → Bool) → Greedy load t xs → Placing load p t
  pub refutes : (t : ℕ → ℕ → Bool) → FallsShort load t xs → (u : ℕ → ℕ → Bool) → Placing load p u → ⊥
  pub ends : ((t : ℕ → ℕ → Bool) × Greedy load t xs) ⊎ ((t : ℕ → ℕ → Bool) × FallsShort load t xs)
  -- so it falls short where there is no placing
  pub short : ((u : ℕ → ℕ → Bool) → Placing load p u → ⊥) → (t : ℕ → ℕ → Bool) × FallsShort load t xs
  -- it has one way to place the flows at most
  pub one : (t u : ℕ → ℕ → Bool) → Greedy load t xs → Greedy load u xs → (f s : ℕ) → p f ≡ true → t f s ≡ u f s

abbrev pub GreedyStands : Type 0
GreedyStands = (load : Load) (p : ℕ → Bool) (xs : List ℕ) → Below load.flows p → Order load.overlap p xs → Along load p xs

-- each slot that the flows of p hold is below m
abbrev pub EndsBy : (ℕ → Bool) → (ℕ → ℕ → Bool) → ℕ → Type 0
EndsBy p t m = (f s : ℕ) → p f ≡ true → t f s ≡ true → s < m

-- m is one more than the highest slot that the flows of p hold, or 0
pub record Span (p : ℕ → Bool) (t : ℕ → ℕ → Bool) (m : ℕ) : Type 0 where
  pub ends : EndsBy p t m
  pub met : (m ≡ 0) ⊎ ((f : ℕ) × (s : ℕ) × (p f ≡ true) × (t f s ≡ true) × (m ≡ suc s))

-- m is the greatest sum of demands of flows of p that all overlap
pub record Greatest (load : Load) (p : ℕ → Bool) (m : ℕ) : Type 0 where
  pub bounds : (k : ℕ → Bool) → Within k p → AllOverlap load.overlap k → total load.demand k load.flows ≤ m
  pub met : (k : ℕ → Bool) × Within k p × AllOverlap load.overlap k × (total load.demand k load.flows ≡ m)

abbrev pub SpansStand : Type 0
SpansStand = (load : Load) (p : ℕ → Bool) (xs : List ℕ) (t : ℕ → ℕ → Bool) (m : ℕ) →
    Below load.flows p → Order load.overlap p xs → Greedy load t xs → Span p t m →
    Greatest load p m × ((u : ℕ → ℕ → Bool) (l : ℕ) → Placing load p u → EndsBy p u l → m ≤ l)
