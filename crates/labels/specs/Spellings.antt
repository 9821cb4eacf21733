-- Which bytes spell a name: 1 to 8 letters a to z.
use Rattle.std.specs.Prelude.{ℕ, ◌<◌, ◌≤◌, List, length, slice_index}

-- the bytes of a to z
abbrev pub Letter : ℕ → Type 0
Letter byte = (97 ≤ byte) × (byte ≤ 122)

abbrev pub Spelling : List ℕ → Type 0
Spelling bytes =
    (1 ≤ length bytes) × (length bytes ≤ 8) × ((k : ℕ) → k < length bytes → Letter (slice_index bytes k))
