-- How the placing of flows along a list comes out. The latest flow stands at the front of a list, and placing goes from its end.
use Rattle.std.specs.Prelude.{◌≡◌, ℕ, ◌+◌, ◌<◌, ◌≤◌, Bool, true, false, List, [], ◌∷◌, ◌++◌, Result, MatchResult}
use Rattle.planner.specs.declared.flow_sets.FlowSet.{FlowSet}
use Rattle.planner.specs.declared.slots.SlotTable.{SlotTable}
use Rattle.planner.specs.FlowSets.{members}
use Rattle.planner.specs.Orders.{Within, plus, AllOverlap, has, Orderly, Order}
use Rattle.planner.specs.Slots.{total, Load, Placing, rivals, Greedy, Short, Next}
use Rattle.planner.specs.Tables.{holds}

-- each flow comes once
abbrev pub Once : List ℕ → Type 0
Once [] = Unit {0}
Once (f ∷ es) = (has es f ≡ false) × Once es

-- the flows xs were placed in t, and no other flow holds a slot
pub record PlacedAlong (load : Load) (xs : List ℕ) (t : ℕ → ℕ → Bool) : Type 0 where
  pub greedy : Greedy load t xs
  pub others : (f s : ℕ) → has xs f ≡ false → t f s ≡ false

-- some flow of xs is short after those before it were placed, and the group is that flow and those before it that overlap it
pub record ShortAlong (load : Load) (xs : List ℕ) (group : ℕ → Bool) : Type 0 where
  pub later : List ℕ
  pub flow : ℕ
  pub earlier : List ℕ
  pub parts : xs ≡ later ++ (flow ∷ earlier)
  pub table : ℕ → ℕ → Bool
  pub placed : PlacedAlong load earlier table
  pub short : Short load table flow earlier
  pub group_is : (g : ℕ) → group g ≡ plus (rivals load flow earlier) flow g
  -- along an order it is short exactly since it and those flows demand more than the period
  pub next : Orderly load.overlap xs → Next load table flow earlier

-- what the placing of the flows xs came to: a table, or the group of a flow that is short
abbrev pub Outcome : Load → List ℕ → Result SlotTable FlowSet → Type 0
Outcome load xs r = MatchResult r (λ table. PlacedAlong load xs (holds table)) (λ group. ShortAlong load xs (members group))

-- the table t is a placing of p, the only one that the greedy makes, and no flow with those before it that overlap it demands more than the period
pub record FitsAlong (load : Load) (p : ℕ → Bool) (xs : List ℕ) (t : ℕ → ℕ → Bool) : Type 0 where
  pub placing : Placing load p t
  pub only : (u : ℕ → ℕ → Bool) → Greedy load u xs → (f s : ℕ) → p f ≡ true → u f s ≡ t f s
  pub fits : (later es : List ℕ) (f : ℕ) → xs ≡ later ++ (f ∷ es) → load.demand f + total load.demand (rivals load f es) load.flows ≤ load.period

-- the flows of the group are of p, all overlap and demand together more than the period, and nothing places p
pub record Crowded (load : Load) (p group : ℕ → Bool) : Type 0 where
  pub within : Within group p
  pub all_overlap : AllOverlap load.overlap group
  pub too_much : load.period < total load.demand group load.flows
  pub none : (t : ℕ → ℕ → Bool) → Placing load p t → ⊥

-- what that says where xs is an order
abbrev pub Verdict : Load → List ℕ → Result SlotTable FlowSet → Type 0
Verdict load xs r = (p : ℕ → Bool) → Order load.overlap p xs → MatchResult r (λ table. FitsAlong load p xs (holds table)) (λ group. Crowded load p (members group))
