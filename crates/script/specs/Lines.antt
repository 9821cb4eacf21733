-- The lines of a script: each ends with byte 10, the last perhaps without.
use Rattle.std.specs.Prelude.{◌≡◌, ℕ, ◌<◌, ◌≤◌, ◌⊎◌, List, [], ◌∷◌, ◌++◌, length, drop, ◌≢◌}
use Rattle.std.specs.List.{flat_map, AllByRecursion}
use Rattle.script.specs.declared.lines.Lines.{Lines}

-- no byte 10
abbrev pub Unbroken : List ℕ → Type 0
Unbroken line = AllByRecursion (λ byte. byte ≢ 10) line

-- lines, each with byte 10 after it
abbrev pub ended : List (List ℕ) → List ℕ
ended lines = flat_map (λ line. line ++ 10 ∷ []) lines

-- what stands after the last byte 10 is a line if it has a byte
abbrev pub last_line : List ℕ → List (List ℕ)
last_line [] = []
last_line (byte ∷ bytes) = (byte ∷ bytes) ∷ []

-- the script is these lines
pub record LinesOf (script : List ℕ) (lines : List (List ℕ)) : Type 0 where
  pub whole : List (List ℕ)
  pub rest : List ℕ
  pub each : AllByRecursion Unbroken whole
  pub unbroken : Unbroken rest
  pub bytes : script ≡ ended whole ++ rest
  pub all : lines ≡ whole ++ last_line rest

-- the script begins with the line, and the rest follows it
pub record FirstLine (script line rest : List ℕ) : Type 0 where
  pub shorter : length rest < length script
  pub bytes : (script ≡ line ++ 10 ∷ rest) ⊎ ((script ≡ line) × (rest ≡ []))
  pub adds : (lines : List (List ℕ)) → LinesOf rest lines → LinesOf script (line ∷ lines)

-- a line stands from one place up to the next line's, so it comes before the lines from there on
pub record NextLine (script : List ℕ) (from : ℕ) (line : List ℕ) (next : ℕ) : Type 0 where
  pub forward : from < next
  pub within : next ≤ length script
  pub adds : (lines : List (List ℕ)) → LinesOf (drop next script) lines → LinesOf (drop from script) (line ∷ lines)

-- the bytes of the lines that are still to come
abbrev pub left : Lines → List ℕ
left lines = lines.rest.now

-- a script is lines in one way
abbrev pub LinesStand : Type 0
LinesStand =
    (script : List ℕ) → (lines : List (List ℕ)) × LinesOf script lines × ((others : List (List ℕ)) → LinesOf script others → others ≡ lines)
