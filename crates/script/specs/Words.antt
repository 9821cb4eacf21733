-- The words of a script: names, which are 1 to 8 letters a to z, and numbers from 0 to 65,535.
use Rattle.std.specs.Prelude.{◌≡◌, ℕ, ◌^◌, ◌<◌, ◌≤◌, List, [], ◌∷◌, ◌++◌, length, codes, decimal, ◌==◌}
use Rattle.std.specs.List.{flat_map, slice_split, AllByRecursion}
use Rattle.labels.specs.Spellings.{Spelling}
use Rattle.script.specs.declared.words.Kind.{Kind}
use Rattle.script.specs.declared.words.Kind.TheVariants.{Name as OfLetters, Number as OfDigits}
use Rattle.script.specs.declared.words.Word.{Word}
use Rattle.script.specs.declared.words.Word.TheVariants.{Name, Number}

-- a number of a script is from 0 to 65,535
abbrev pub Short : ℕ → Type 0
Short n = n < 2 ^ 16

-- the bytes spell a number, in decimal with no leading zeros
abbrev pub IsNumber : List ℕ → Type 0
IsNumber bytes = (n : ℕ) × Short n × (bytes ≡ decimal n)

-- the bytes spell a word of this kind
abbrev pub OfKind : Kind → List ℕ → Type 0
OfKind OfLetters bytes = Spelling bytes
OfKind OfDigits bytes = IsNumber bytes

abbrev pub IsWord : List ℕ → Type 0
IsWord bytes = (kind : Kind) × OfKind kind bytes

-- what a word is, and how it is spelled
abbrev pub word_kind : Word → Kind
word_kind (Name bytes) = OfLetters
word_kind (Number n) = OfDigits

abbrev pub word_bytes : Word → List ℕ
word_bytes (Name bytes) = bytes.now
word_bytes (Number n) = decimal n

-- words parted by one space
abbrev pub spaced : List (List ℕ) → List ℕ
spaced [] = []
spaced (word ∷ words) = word ++ flat_map (λ next. codes " " ++ next) words

-- the line is these words, one or more
pub record WordsOf (line : List ℕ) (words : List (List ℕ)) : Type 0 where
  pub some : 1 ≤ length words
  pub each : AllByRecursion IsWord words
  pub whole : line ≡ spaced words

-- the parts of a line between its spaces
abbrev pub parts : List ℕ → List (List ℕ)
parts line = slice_split (λ byte. byte == 32) line
