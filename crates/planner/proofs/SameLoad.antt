-- One load, told in two ways.
use Rattle.std.proofs.Common.{◌≡◌, ℕ, Bool, List, get_or, Option, subst}
use mathlib.Core.Path.{fun_ext}
use mathlib.Core.Bool.{Bool-set}
use Rattle.planner.specs.declared.flows.Flow.{Flow}
use Rattle.planner.specs.declared.overlaps.Overlaps.{Overlaps}
use Rattle.planner.specs.Bookings.{booked_load, demand_of, overlap_of, overlap_mutual}
use Rattle.planner.specs.Groups.{overlapping}
use Rattle.planner.specs.Loads.{load_of}
use Rattle.planner.specs.Slots.{Load}

abbrev Mutual : (ℕ → ℕ → Bool) → Type 0
Mutual ov = (f g : ℕ) → ov f g ≡ ov g f

mutual_one : (ov : ℕ → ℕ → Bool) (a b : Mutual ov) → a ≡ b
mutual_one ov a b = fun_ext (λ f. fun_ext (λ g. Bool-set (ov f g) (ov g f) (a f g) (b f g)))

abbrev load_with : ℕ → ℕ → (ℕ → ℕ) → (ov : ℕ → ℕ → Bool) → Mutual ov → Load
load_with n m d ov both = record { flows = n; overlap = ov; demand = d; period = m; symmetric = both }

-- what holds of a load holds of one with the same overlaps and demands
same_load : (n m : ℕ) (d e : ℕ → ℕ) (ov pv : ℕ → ℕ → Bool) (a : Mutual ov) (b : Mutual pv) → ov ≡ pv → d ≡ e → (P : Load → Type 0) → P (load_with n m d ov a) → P (load_with n m e pv b)
same_load n m d e ov pv a b same-ov same-d P h =
    subst (λ q. (c : Mutual q) → P (load_with n m e q c)) same-ov
    (λ c. subst (λ z. P (load_with n m e ov z)) (mutual_one ov a c) (subst (λ z. P (load_with n m z ov a)) same-d h)) b

-- the load that is kept in groups and a list is that of the bookings
pub booked_load_is : (overlaps : Overlaps) (demands : List ℕ) (period : ℕ) (booked : ℕ → Option Flow) (route : ℕ → ℕ → Bool) →
    ((f g : ℕ) → overlapping overlaps.groups f g ≡ overlap_of route f g) → ((n : ℕ) → get_or demands n 0 ≡ demand_of (booked n)) →
    (P : Load → Type 0) → P (load_of overlaps demands period) → P (booked_load booked route period)
booked_load_is overlaps demands period booked route ov d =
    same_load 64 period (λ f. get_or demands f 0) (λ n. demand_of (booked n)) (overlapping overlaps.groups) (overlap_of route) overlaps.symmetric (overlap_mutual route)
    (fun_ext (λ f. fun_ext (ov f))) (fun_ext d)

-- the same, between bookings with the same flows and routes
pub rebooked : (period : ℕ) (booked other : ℕ → Option Flow) (route through : ℕ → ℕ → Bool) → booked ≡ other → route ≡ through →
    (P : Load → Type 0) → P (booked_load booked route period) → P (booked_load other through period)
rebooked period booked other route through same_b same_r P h =
    subst (λ r. P (booked_load other r period)) same_r (subst (λ b. P (booked_load b route period)) same_b h)
