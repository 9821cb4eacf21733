-- Lists of things, as an answer tells them.
use Rattle.std.specs.Prelude.{ℕ, List, [], ◌∷◌, ◌++◌, codes}
use Rattle.std.specs.List.{flat_map}

-- things as they are shown, parted by commas; a text of its own for none
abbrev pub parted : {A : Type 0} → (A → List ℕ) → List ℕ → List A → List ℕ
parted show none [] = none
parted show none (first ∷ more) = show first ++ flat_map (λ next. codes "," ++ show next) more
