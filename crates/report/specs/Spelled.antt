-- How numbers and their lists are spelled.
use Rattle.std.specs.Prelude.{◌≡◌, ℕ, ◌^◌, ◌<◌, ◌≤◌, List, [], ◌∷◌, ◌++◌, length, codes, decimal}
use Rattle.std.specs.List.{flat_map, AllByRecursion}

-- numbers parted by commas
abbrev pub commas : List ℕ → List ℕ
commas [] = []
commas (n ∷ ns) = decimal n ++ flat_map (λ m. codes "," ++ decimal m) ns

-- a number from 0 to 65535
abbrev pub Short : ℕ → Type 0
Short n = n < 2 ^ 16

-- the word spells a number
abbrev pub IsNumber : List ℕ → Type 0
IsNumber word = (n : ℕ) × Short n × (word ≡ decimal n)

-- one number or more
abbrev pub Numbers : List ℕ → Type 0
Numbers ns = (1 ≤ length ns) × AllByRecursion Short ns

-- the word spells numbers parted by commas
abbrev pub IsNumbers : List ℕ → Type 0
IsNumbers word = (ns : List ℕ) × Numbers ns × (word ≡ commas ns)
