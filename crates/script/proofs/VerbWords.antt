-- The first words of commands are names.
use Rattle.std.proofs.Common.{◌≡◌, ℕ, ◌≤◌, Bool, true, ◌&&◌, leb, List, [], ◌∷◌, length, IsUtf8, Decides, refl, ⊎_elim, arith}
use Rattle.std.specs.List.{AllByRecursion}
use Rattle.std.proofs.ByRecursion.{All-get_or, Decides-by_and}
use Rattle.std.proofs.lemmas.List.{get_or_past}
use Rattle.std.proofs.lemmas.Bool.{cases_lt, leb-true, le-leb}
use Rattle.std.proofs.lemmas.Str.{IsUtf8-from_ascii}
use Rattle.std.proofs.lemmas.Bool.Decides.{Decides-and}
use Rattle.labels.specs.Spellings.{Letter, Spelling}
use Rattle.script.specs.declared.verbs.Verb.{Verb}
use Rattle.script.specs.declared.verbs.Verb.TheVariants.{Line, Tree, Open, Enrol, Admit, Withdraw, Replan, Start, Rest, Show}
use Rattle.script.specs.Verbs.{verb_word}

abbrev letters : List ℕ → Bool
letters [] = true
letters (byte ∷ bytes) = (leb 97 byte && leb byte 122) && letters bytes

all_letters : (bytes : List ℕ) → Decides (letters bytes) (AllByRecursion Letter bytes)
all_letters =
    Decides-by_and
    (λ byte. leb 97 byte && leb byte 122)
    Letter
    letters
    (λ byte. Decides-and (leb 97 byte) (leb byte 122) (leb-true 97 byte, le-leb 97 byte) (leb-true byte 122, le-leb byte 122))
    refl
    (λ byte bytes. refl)

tested : (bytes : List ℕ) → 1 ≤ length bytes → length bytes ≤ 8 → letters bytes ≡ true → Spelling bytes
tested bytes some most passed = (some, most, λ k inside. All-get_or Letter bytes k 0 inside ((all_letters bytes).0 passed))

pub verb_spelling : (verb : Verb) → Spelling (verb_word verb)
verb_spelling Line = tested (verb_word Line) (omega arith) (omega arith) refl
verb_spelling Tree = tested (verb_word Tree) (omega arith) (omega arith) refl
verb_spelling Open = tested (verb_word Open) (omega arith) (omega arith) refl
verb_spelling Enrol = tested (verb_word Enrol) (omega arith) (omega arith) refl
verb_spelling Admit = tested (verb_word Admit) (omega arith) (omega arith) refl
verb_spelling Withdraw = tested (verb_word Withdraw) (omega arith) (omega arith) refl
verb_spelling Replan = tested (verb_word Replan) (omega arith) (omega arith) refl
verb_spelling Start = tested (verb_word Start) (omega arith) (omega arith) refl
verb_spelling Rest = tested (verb_word Rest) (omega arith) (omega arith) refl
verb_spelling Show = tested (verb_word Show) (omega arith) (omega arith) refl

pub name_text : (bytes : List ℕ) → Spelling bytes → IsUtf8 bytes
name_text bytes name =
    IsUtf8-from_ascii bytes (λ k. ⊎_elim (λ inside. omega (arith, (name.2 k inside).1)) (λ past. omega (arith, get_or_past bytes k 0 past)) (cases_lt k (length bytes)))
