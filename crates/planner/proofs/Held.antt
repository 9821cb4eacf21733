-- What flows that all overlap hold together.
use Rattle.std.proofs.Common.{◌≡◌, ℕ, zero, suc, ◌<◌, ◌≤◌, Bool, true, false, cond, ◌&&◌, refl, arith}
use Rattle.std.proofs.lemmas.Bool.{and_parts, and_from}
use Rattle.planner.specs.Orders.{Within, AllOverlap}
use Rattle.planner.specs.Slots.{total, count, some_below, taken, Load, Placing, SumsStand}
use Rattle.planner.proofs.Sharing.{some_decides}
use Rattle.planner.proofs.Totals.{total_or, total_none, count_le}

module _ (t : ℕ → ℕ → Bool) (n : ℕ) (k : ℕ → Bool) (s : ℕ) where
  pub taken_from : (f : ℕ) → f < n → k f ≡ true → t f s ≡ true → taken t n k s ≡ true
  taken_from f b in' h = (some_decides (λ f. k f && t f s) n).1 (f, b, and_from (k f) (t f s) in' h)

  pub taken_gives : taken t n k s ≡ true → (f : ℕ) × (f < n) × ((k f && t f s) ≡ true)
  taken_gives = (some_decides (λ f. k f && t f s) n).0

-- no slot is shared by two flows of k
abbrev pub Unshared : (ℕ → ℕ → Bool) → (ℕ → Bool) → Type 0
Unshared t k = (f g s : ℕ) → k f ≡ true → k g ≡ true → (f ≡ g → ⊥) → t f s ≡ true → t g s ≡ true → ⊥

-- the slots of one flow, if it is of k
held_by_one : (b : Bool) (r : ℕ → Bool) (m d : ℕ) → (b ≡ true → count r m ≡ d) → count (λ s. b && r s) m ≡ cond b d 0
held_by_one true r m d amount = amount refl
held_by_one false r m d amount = total_none (λ _. 1) (λ s. false && r s) m (λ _ _. refl)

-- flows that share no slot hold together what they hold one by one
pub held_together : (t : ℕ → ℕ → Bool) (d : ℕ → ℕ) (k : ℕ → Bool) (m : ℕ) → Unshared t k →
    (n : ℕ) → ((f : ℕ) → f < n → k f ≡ true → count (t f) m ≡ d f) → count (taken t n k) m ≡ total d k n
unfolding total some_below
held_together t d k m unshared zero amount = total_none (λ _. 1) (taken t 0 k) m (λ _ _. refl)
held_together t d k m unshared (suc n) amount =
    let below = held_together t d k m unshared n (λ f b. amount f (omega arith)) in
    let here = held_by_one (k n) (t n) m (d n) (amount n (omega arith)) in
    let both = total_or (λ _. 1) (λ s. k n && t n s) (taken t n k) m (λ s _ one others.
    let mine = and_parts (k n) (t n s) one in
    let found = taken_gives t n k s others in
    let its = and_parts (k found.0) (t found.0 s) found.2 in
    unshared n found.0 s mine.0 its.0 (λ (e : n ≡ found.0). let b = found.1 in omega arith) mine.1 its.1) in
    omega arith

module _ (load : Load) (p : ℕ → Bool) (t : ℕ → ℕ → Bool) (placing : Placing load p t) (k : ℕ → Bool) (part : Within k p) (all : AllOverlap load.overlap k) where
  pub unshared : Unshared t k
  unshared f g s kf kg ne = placing.apart f g s (part f kf) (part g kg) ne (all f g kf kg ne)

  pub held : count (taken t load.flows k) load.period ≡ total load.demand k load.flows
  held = held_together t load.demand k load.period unshared load.flows (λ f _ kf. placing.amount f (part f kf))

  pub held_le : total load.demand k load.flows ≤ load.period
  held_le = omega (arith, held, count_le (taken t load.flows k) load.period)

pub sums_stand : SumsStand
sums_stand load p k part all = record {
  held = λ t placing. held load p t placing k part all;
  fits = λ t placing. held_le load p t placing k part all;
  crowded = λ much t placing. let fits = held_le load p t placing k part all in omega arith;
}
