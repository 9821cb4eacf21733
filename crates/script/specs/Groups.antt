-- Groups of flows, and how they are written.
use Rattle.std.specs.Prelude.{◌≡◌, ℕ, ◌+◌, ◌≤◌, Bool, true, false, cond, ◌⊎◌, List, [], ◌∷◌, decimal, slice_index_or}
use Rattle.script.specs.Lists.{parted}

-- numbers parted by commas
abbrev pub commas : List ℕ → List ℕ
commas = parted decimal []

-- the numbers that are held in a row whose first number is `at`
abbrev pub members_from : ℕ → List Bool → List ℕ
members_from at [] = []
members_from at (held ∷ row) = cond held (at ∷ members_from (at + 1) row) (members_from (at + 1) row)

abbrev pub members : List Bool → List ℕ
members row = members_from 0 row

-- What these are, in the words of the subject: the numbers rise,
abbrev pub Ascending : ℕ → List ℕ → Type 0
Ascending low [] = Unit {0}
Ascending low (n ∷ more) = (low ≤ n) × Ascending (n + 1) more

-- and are those that are held
abbrev pub Among : ℕ → List ℕ → Type 0
Among k [] = ⊥
Among k (n ∷ more) = (k ≡ n) ⊎ Among k more

pub record MembersOf (row : List Bool) (all : List ℕ) : Type 0 where
  pub ascending : Ascending 0 all
  pub each : (k : ℕ) → slice_index_or row k false ≡ true → Among k all
  pub only : (k : ℕ) → Among k all → slice_index_or row k false ≡ true

-- the members of a row are these, and nothing else is
abbrev pub MembersStand : Type 0
MembersStand = (row : List Bool) → MembersOf row (members row) × ((others : List ℕ) → MembersOf row others → others ≡ members row)
