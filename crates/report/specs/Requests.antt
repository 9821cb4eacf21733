-- The arguments of `routes`: which words ask for what, and why others are turned away.
use Rattle.std.specs.Prelude.{◌≡◌, ℕ, ◌+◌, ◌*◌, ◌<◌, ◌≤◌, Bool, true, false, ◌⊎◌, List, [], ◌∷◌, ◌++◌, length, drop, vec_items, string_bytes, codes, decimal, ◌≢◌, slice_index_or}
use Rattle.std.specs.List.{AllByRecursion}
use Rattle.fabric.specs.declared.modules.Module.{Module}
use Rattle.fabric.specs.declared.pairs.Pair.{Pair}
use Rattle.report.specs.declared.descriptions.Description.{Description}
use Rattle.report.specs.declared.descriptions.Description.TheVariants.{Line, Tree, List as Listed}
use Rattle.report.specs.declared.misuses.Misuse.{Misuse}
use Rattle.report.specs.declared.misuses.Misuse.TheVariants.{UnknownFabric, NoDescription, NotNumbers, NotAModule, Unpaired, NotANumber, NoMemory}
use Rattle.report.specs.Spelled.{commas, Short, Numbers, IsNumber, IsNumbers}

-- the word that spells a module: its port and its count
abbrev pub module_word : Module → List ℕ
module_word m = commas (m.port ∷ m.count ∷ [])

-- the options that put modules on the fabric, the lowest first
abbrev pub module_words : List Module → List (List ℕ)
module_words [] = []
module_words (m ∷ ms) = codes "--spur" ∷ module_word m ∷ module_words ms

-- the two words that describe the fabric
abbrev pub fabric_words : Description → List (List ℕ)
fabric_words (Line terminals) = codes "line" ∷ decimal terminals ∷ []
fabric_words (Tree parents) = codes "tree" ∷ commas (vec_items parents) ∷ []
fabric_words (Listed file) = codes "list" ∷ string_bytes file ∷ []

-- the words that spell pairs: source, destination, and so on
abbrev pub pair_words : List Pair → List (List ℕ)
pair_words [] = []
pair_words (p ∷ ps) = decimal p.source ∷ decimal p.destination ∷ pair_words ps

-- every number that the user may write is from 0 to 65535
abbrev pub ShortModule : Module → Type 0
ShortModule m = Short m.port × Short m.count

abbrev pub ShortPair : Pair → Type 0
ShortPair p = Short p.source × Short p.destination

-- so also in a description; a tree has one parent or more
abbrev pub Describes : Description → Type 0
Describes (Line terminals) = Short terminals
Describes (Tree parents) = Numbers (vec_items parents)
Describes (Listed file) = Unit {0}

-- only on a list may the user ask for no pair
abbrev pub wants_pairs : Description → Bool
wants_pairs (Line terminals) = true
wants_pairs (Tree parents) = true
wants_pairs (Listed file) = false

-- the words ask for these pairs on that fabric with these modules
pub record Asks (words : List (List ℕ)) (ms : List Module) (d : Description) (ps : List Pair) : Type 0 where
  pub spelled : words ≡ module_words ms ++ (fabric_words d ++ pair_words ps)
  pub modules : AllByRecursion ShortModule ms
  pub description : Describes d
  pub pairs : AllByRecursion ShortPair ps
  pub some : wants_pairs d ≡ true → 1 ≤ length ps

abbrev pub AskNothing : List (List ℕ) → Type 0
AskNothing words = (ms : List Module) (d : Description) (ps : List Pair) → Asks words ms d ps → ⊥

-- What is read of the words up to a place. First the options,
abbrev pub OptionsTo : List (List ℕ) → List Module → ℕ → Type 0
OptionsTo words ms at = AllByRecursion ShortModule ms × (at ≡ 2 * length ms) × (words ≡ module_words ms ++ drop at words)

-- then the fabric,
abbrev pub FabricTo : List (List ℕ) → Description → ℕ → Type 0
FabricTo words d at =
    (ms : List Module)
    × (from : ℕ)
    × OptionsTo words ms from
    × Describes d
    × (at ≡ from + 2)
    × (drop from words ≡ fabric_words d ++ drop at words)

-- then the pairs
abbrev pub PairsTo : List (List ℕ) → Description → List Pair → ℕ → Type 0
PairsTo words d ps at =
    (from : ℕ)
    × FabricTo words d from
    × AllByRecursion ShortPair ps
    × (at ≡ from + 2 * length ps)
    × (drop from words ≡ pair_words ps ++ drop at words)

-- the word spells a module
abbrev pub IsModule : List ℕ → Type 0
IsModule word = (m : Module) × ShortModule m × (word ≡ module_word m)

abbrev pub NamesFabric : List ℕ → Type 0
NamesFabric word = (word ≡ codes "line") ⊎ ((word ≡ codes "tree") ⊎ (word ≡ codes "list"))

-- Why the words are no request: all that stands before is right, and then comes what is wrong. Past the end of the words
-- there is an empty word.
abbrev pub TurnedAway : List (List ℕ) → Misuse → Type 0
TurnedAway words UnknownFabric =
    (ms : List Module)
    × (at : ℕ)
    × OptionsTo words ms at
    × (slice_index_or words at [] ≢ codes "--spur")
    × (NamesFabric (slice_index_or words at []) → ⊥)
TurnedAway words NoDescription =
    (ms : List Module) × (at : ℕ) × OptionsTo words ms at × NamesFabric (slice_index_or words at []) × (at + 1 ≡ length words)
TurnedAway words (NotAModule place) =
    (ms : List Module)
    × (at : ℕ)
    × OptionsTo words ms at
    × (slice_index_or words at [] ≡ codes "--spur")
    × (place ≡ at + 1)
    × (IsModule (slice_index_or words place []) → ⊥)
TurnedAway words (NotNumbers place) =
    (ms : List Module)
    × (at : ℕ)
    × OptionsTo words ms at
    × (slice_index_or words at [] ≡ codes "tree")
    × (place ≡ at + 1)
    × (place < length words)
    × (IsNumbers (slice_index_or words place []) → ⊥)
TurnedAway words (NotANumber place) =
    (place < length words)
    × (IsNumber (slice_index_or words place []) → ⊥)
    × (((ms : List Module) × (at : ℕ) × OptionsTo words ms at × (slice_index_or words at [] ≡ codes "line") × (place ≡ at + 1))
    ⊎ ((d : Description)
    × (ps : List Pair)
    × (at : ℕ)
    × PairsTo words d ps at
    × ((place ≡ at) ⊎ ((place ≡ at + 1) × IsNumber (slice_index_or words at [])))))
TurnedAway words Unpaired =
    (d : Description)
    × (ps : List Pair)
    × (at : ℕ)
    × PairsTo words d ps at
    × (((at + 1 ≡ length words) × IsNumber (slice_index_or words at []))
    ⊎ ((at ≡ length words) × (ps ≡ []) × (wants_pairs d ≡ true)))
TurnedAway words NoMemory = Unit {0}
