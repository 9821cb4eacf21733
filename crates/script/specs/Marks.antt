-- Marks, and the words that stand at them.
use Rattle.std.specs.Prelude.{◌≡◌, ℕ, ◌-◌, ◌<◌, ◌≤◌, List, [], ◌∷◌, length, take, drop, slice_index_or}
use Rattle.std.specs.List.{AllByRecursion}
use Rattle.labels.specs.Spellings.{Spelling}
use Rattle.script.specs.declared.marks.Beyond.{Beyond}
use Rattle.script.specs.declared.marks.Beyond.TheVariants.{Nothing, Numbers, Names}
use Rattle.script.specs.declared.marks.Mark.{Mark}
use Rattle.script.specs.declared.marks.Marks.{Marks}
use Rattle.script.specs.Words.{IsNumber, OfKind}

-- the word stands in the line at the mark, and is of its kind
pub record Stands (line : List ℕ) (mark : Mark) (word : List ℕ) : Type 0 where
  pub forward : mark.from ≤ mark.to
  pub within : mark.to ≤ length line
  pub here : take (mark.to - mark.from) (drop mark.from line) ≡ word
  pub kind : OfKind mark.kind word

-- the words stand at the marks, one at each
abbrev pub Stand : List ℕ → List Mark → List (List ℕ) → Type 0
Stand line [] [] = Unit {0}
Stand line [] (word ∷ words) = ⊥
Stand line (mark ∷ marks) [] = ⊥
Stand line (mark ∷ marks) (word ∷ words) = Stands line mark word × Stand line marks words

-- what words there are past those that are marked
abbrev pub Past : Beyond → List (List ℕ) → Type 0
Past Nothing words = words ≡ []
Past Numbers words = (1 ≤ length words) × AllByRecursion IsNumber words
Past Names words = (k : ℕ) × (k < length words) × Spelling (slice_index_or words k [])

-- these are the marks of the words, of the first 128
pub record Marked (line : List ℕ) (marks : Marks) (words : List (List ℕ)) : Type 0 where
  pub first : Stand line marks.first.items (take 128 words)
  pub past : Past marks.beyond (drop 128 words)

-- the words after the first: those that are marked, and those past the marks
pub record After (line : List ℕ) (marks : List Mark) (beyond : Beyond) (words : List (List ℕ)) : Type 0 where
  pub marked : Stand line marks (take 127 words)
  pub past : Past beyond (drop 127 words)
