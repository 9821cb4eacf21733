-- The words of the arguments, read one after the other.
use Rattle.std.specs.Prelude.{◌≡◌, ℕ, ◌+◌, ◌<◌, ◌≤◌, List, [], map, length, string_bytes, Option, Some, None, slice_index_or}
use Rattle.report.specs.declared.words.Word.{Word}
use Rattle.report.specs.declared.words.Words.{Words}

-- the words that a reader reads
abbrev pub all_of : Words → List (List ℕ)
all_of reader = map string_bytes reader.all.now

-- the one that it reads next; past the end there is an empty word
abbrev pub next_of : Words → List ℕ
next_of reader = slice_index_or (all_of reader) reader.at []

-- A reader gives the word that it reads next, with its place, and goes on; or it has read all, and stays.
abbrev pub Takes : Words → Option Word → Words → Type 0
Takes reader None after = (length (all_of reader) ≤ reader.at) × (after ≡ reader)
Takes reader (Some word) after =
    (reader.at < length (all_of reader))
    × (word.place ≡ reader.at)
    × (word.text.now ≡ next_of reader)
    × (after ≡ record reader { at = reader.at + 1 })
