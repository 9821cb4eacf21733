-- The links of a route that is checked: those that are kept come before the first that is not.
use Rattle.std.proofs.Common.{◌≡◌, ℕ, zero, suc, ◌+◌, ◌-◌, ◌<◌, ◌≤◌, List, length, get_or, take, drop, ap, ◌∙◌, min, ltb, refl, arith}
use Rattle.std.proofs.lemmas.Bool.{ltb-true, ltb-false}
use Rattle.std.proofs.lemmas.List.{take_all, length-take, length-drop, get_or-take, get_or-drop}
use Rattle.std.proofs.lemmas.List.Sums.{prefix_len-le-length, prefix_len_passes, prefix_len_stops}
use Rattle.std.specs.List.{prefix_len}
use Rattle.fabric.specs.RouteLists.{Route}
use Rattle.fabric.specs.RouteRefusals.{Kept, stated_links}

module _ (bs : List ℕ) (before : List Route) (at count links kept : ℕ) (some : at + 2 < length bs) (size : count ≡ get_or bs (at + 2) 0) (least : 1 ≤ count) (bound : links ≡ stated_links bs) (kept_is : kept ≡ prefix_len (λ x. ltb x links) (take count (take (length bs - (at + 3)) (drop (at + 3) bs)))) where
  -- the bytes that stand for links
  abbrev part : List ℕ
  part = take count (drop (at + 3) bs)

  count_is : kept ≡ prefix_len (λ x. ltb x links) part
  count_is =
      kept_is ∙ ap (λ xs. prefix_len (λ x. ltb x links) (take count xs)) (take_all (length bs - (at + 3)) (drop (at + 3) bs) (omega (arith, length-drop (at + 3) bs)))

  length_part : length part ≡ min count (length bs - (at + 3))
  length_part = simp (length-take, length-drop) refl

  -- how far they reach
  pub kept_most : (kept ≤ count) × (at + 3 + kept ≤ length bs)
  kept_most =
      let most = prefix_len-le-length (λ x. ltb x links) part in
      (omega (arith, most, count_is, length_part), omega (arith, most, count_is, length_part))

  link_at : (i : ℕ) → i < count → get_or part i 0 ≡ get_or bs (at + suc (suc (suc i))) 0
  link_at i h =
      let e : at + 3 + i ≡ at + suc (suc (suc i)) = omega arith in
      rw (get_or-take, get_or-drop, e)

  pub kept_all : ((k : ℕ) → k < 2 → Kept bs before at k) → (k : ℕ) → k < 3 + kept → Kept bs before at k
  kept_all ends zero h = ends 0 (omega arith)
  kept_all ends (suc zero) h = ends 1 (omega arith)
  kept_all ends (suc (suc zero)) h = (omega arith, omega arith)
  kept_all ends (suc (suc (suc i))) h =
      let below = ltb-true (get_or part i 0) links (prefix_len_passes (λ x. ltb x links) part i 0 (omega (arith, count_is))) in
      (omega (arith, kept_most), omega (arith, below, link_at i (omega (arith, kept_most))))

  pub kept_stops : kept < count → Kept bs before at (suc (suc (suc kept))) → ⊥
  kept_stops less there =
      let stop = prefix_len_stops (λ x. ltb x links) part 0 (omega (arith, count_is, length_part)) in
      let above = ltb-false (get_or part kept 0) links (rw count_is stop) in
      omega (arith, above, link_at kept less)
