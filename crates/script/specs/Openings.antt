-- The line that opens a plan, by how it is spelled.
use Rattle.std.specs.Prelude.{◌≡◌, ℕ, List, [], ◌∷◌, codes, decimal}
use Rattle.script.specs.Words.{Short, spaced}

abbrev pub opening_words : ℕ → List (List ℕ)
opening_words period = codes "open" ∷ decimal period ∷ []

-- the line is the spelling of the opening with this period
abbrev pub IsOpening : List ℕ → ℕ → Type 0
IsOpening line period = Short period × (line ≡ spaced (opening_words period))
