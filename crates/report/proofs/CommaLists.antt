-- Numbers parted by commas, as a loop writes them: the first, and each other after a comma.
use Rattle.std.proofs.Common.{◌≡◌, ℕ, ◌-◌, ◌≤◌, List, [], ◌∷◌, ◌++◌, length, get_or, take, drop, codes, decimal, arith}
use Rattle.std.specs.List.{flat_map}
use Rattle.std.proofs.lemmas.Grind.{common_steps}
use Rattle.report.specs.Spelled.{commas}

pub all_told : (xs : List ℕ) (i : ℕ) → 1 ≤ length xs → length (take (length xs - 1) (drop 1 xs)) ≤ i → decimal (get_or xs 0 0) ++ flat_map (λ m. codes "," ++ decimal m) (take i (take (length xs - 1) (drop 1 xs))) ≡ commas xs
all_told [] i some h = absurd (omega arith)
all_told (x ∷ xs) i some h = grind (arith, common_steps)
