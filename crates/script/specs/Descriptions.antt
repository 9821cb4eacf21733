-- Descriptions of fabrics, by how they are spelled.
use Rattle.std.specs.Prelude.{◌≡◌, ℕ, ◌<◌, List, [], ◌∷◌, map, length, take, codes, decimal}
use Rattle.std.specs.List.{AllByRecursion}
use Rattle.script.specs.declared.descriptions.Description.{Description}
use Rattle.script.specs.declared.descriptions.Description.TheVariants.{Line, Tree, LongTree}
use Rattle.script.specs.declared.descriptions.Parents.{Parents}
use Rattle.script.specs.Words.{Short, spaced}

-- the parents that are kept, those of terminals 1, 2 and so on
abbrev pub held : Parents → List ℕ
held parents = take parents.count parents.room

abbrev pub line_words : ℕ → List (List ℕ)
line_words terminals = codes "line" ∷ decimal terminals ∷ []

abbrev pub tree_words : List ℕ → List (List ℕ)
tree_words parents = codes "tree" ∷ map decimal parents

-- the words of a description; those of a tree with too many parents are not kept
abbrev pub Described : Description → List (List ℕ) → Type 0
Described (Line terminals) words = Short terminals × (words ≡ line_words terminals)
Described (Tree parents) words = AllByRecursion Short (held parents) × (words ≡ tree_words (held parents))
Described LongTree words = (parents : List ℕ) × (127 < length parents) × AllByRecursion Short parents × (words ≡ tree_words parents)

-- the line is the spelling of the description
abbrev pub IsDescription : List ℕ → Description → Type 0
IsDescription line fabric = (words : List (List ℕ)) × Described fabric words × (line ≡ spaced words)
