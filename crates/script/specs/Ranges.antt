-- Runs of held slots, and how they are written.
use Rattle.std.specs.Prelude.{◌≡◌, ℕ, ◌+◌, ◌<◌, ◌≤◌, Bool, true, false, cond, ◌⊎◌, List, [], ◌∷◌, ◌++◌, drop, codes, decimal, ◌==◌, slice_index_or}
use Rattle.script.specs.declared.ranges.Run.{Run}
use Rattle.script.specs.declared.ranges.Runs.{Runs}
use Rattle.script.specs.Lists.{parted}

-- a range leaves out its upper end
abbrev pub range : Run → List ℕ
range run = decimal run.from ++ (codes "-" ++ decimal run.to)

-- ranges parted by commas, or `-` for none
abbrev pub ranges : List Run → List ℕ
ranges = parted range (codes "-")

-- with the slot `at` before the runs: the first grows if it begins with the next slot
abbrev pub grown : ℕ → List Run → List Run
grown at [] = record { from = at; to = at + 1 } ∷ []
grown at (run ∷ more) =
    cond (run.from == at + 1) (record { from = at; to = run.to } ∷ more) (record { from = at; to = at + 1 } ∷ run ∷ more)

-- the runs of a row whose first slot is `at`
abbrev pub runs_from : ℕ → List Bool → List Run
runs_from at [] = []
runs_from at (held ∷ row) = cond held (grown at (runs_from (at + 1) row)) (runs_from (at + 1) row)

abbrev pub runs : List Bool → List Run
runs row = runs_from 0 row

-- those that are still to come
abbrev pub left : Runs → List Run
left runs = runs_from runs.at (drop runs.at runs.row.now)

-- What these are, in the words of the subject: each run has a slot, and between two runs one is left out,
abbrev pub Rising : ℕ → List Run → Type 0
Rising low [] = Unit {0}
Rising low (run ∷ more) = (low ≤ run.from) × (run.from < run.to) × Rising (run.to + 1) more

-- and the slots in the runs are those that are held
abbrev pub InRuns : ℕ → List Run → Type 0
InRuns slot [] = ⊥
InRuns slot (run ∷ more) = ((run.from ≤ slot) × (slot < run.to)) ⊎ InRuns slot more

pub record RunsOf (row : List Bool) (all : List Run) : Type 0 where
  pub rising : Rising 0 all
  pub each : (slot : ℕ) → slice_index_or row slot false ≡ true → InRuns slot all
  pub only : (slot : ℕ) → InRuns slot all → slice_index_or row slot false ≡ true

-- the runs of a row are these, and nothing else is
abbrev pub RunsStand : Type 0
RunsStand = (row : List Bool) → RunsOf row (runs row) × ((others : List Run) → RunsOf row others → others ≡ runs row)
