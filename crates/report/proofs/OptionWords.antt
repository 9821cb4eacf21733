-- The words of the options.
use Rattle.std.proofs.Common.{◌≡◌, ℕ, ◌<◌, List, [], ◌∷◌, ◌++◌, length, drop, Some, None, Option, MatchOption, codes, decimal, sym, refl, ap, ◌∙◌, subst, append-nil, arith, length-append, Bor}
use Rattle.std.proofs.ByRecursion.{All-push}
use Rattle.std.proofs.lemmas.List.{length_push, get_or_past}
use Rattle.std.proofs.lemmas.Option.{none-some}
use Rattle.std.proofs.lemmas.Str.Pattern.{IsSplitOnceResult, split_after, split_parts}
use Rattle.fabric.specs.declared.modules.Module.{Module}
use Rattle.report.specs.Requests.{module_word, module_words, ShortModule, IsModule, OptionsTo}
use Rattle.report.specs.Spelled.{IsNumber}
use Rattle.report.proofs.CommaWords.{no_comma, comma_in}
use Rattle.report.specs.Words.{all_of, next_of, Takes}
use Rattle.report.specs.declared.words.Word.{Word}
use Rattle.report.specs.declared.words.Words.{Words}
use Rattle.report.proofs.WordPlaces.{Taken, two}

-- a module is two numbers about a comma
flat : (m : Module) → module_word m ≡ decimal m.port ++ (44 ∷ decimal m.count)
flat m = ap (λ l. decimal m.port ++ (44 ∷ l)) (append-nil (decimal m.count))

pub no_module : (bs : List ℕ) → IsSplitOnceResult 44 bs None → IsModule bs → ⊥
no_module bs cut (m, short, e) = comma_in bs _ _ (e ∙ flat m) (split_parts 44 bs None cut (omega arith))

pub module_parts : (bs : List ℕ) (x : Bor (List ℕ) × Bor (List ℕ)) → IsSplitOnceResult 44 bs (Some x) → IsModule bs → IsNumber x.0.now × IsNumber x.1.now
module_parts bs x cut (m, short, e) =
    let parts = split_after 44 bs (decimal m.port) (decimal m.count) (Some x) cut (omega arith) (e ∙ flat m) (no_comma m.port short.0) in
    ((m.port, short.0, parts.0), (m.count, short.1, parts.1))

pub module_made : (bs : List ℕ) (x : Bor (List ℕ) × Bor (List ℕ)) (m : Module) → IsSplitOnceResult 44 bs (Some x) → x.0.now ≡ decimal m.port → x.1.now ≡ decimal m.count → bs ≡ module_word m
module_made bs x m cut first second =
    (split_parts 44 bs (Some x) cut (omega arith)).0 ∙ (λ i. first i ++ (44 ∷ second i)) ∙ sym (flat m)

-- a module's word is not empty
module_some : (m : Module) → 0 < length (module_word m)
module_some m = omega (arith, ap length (flat m), length-append (decimal m.port) (44 ∷ decimal m.count))

push : (ms : List Module) (m : Module) (rest : List (List ℕ)) → module_words ms ++ (codes "--spur" ∷ module_word m ∷ rest) ≡ module_words (ms ++ m ∷ []) ++ rest
push [] m rest = refl
push (k ∷ ms) m rest = ap (λ l. codes "--spur" ∷ module_word k ∷ l) (push ms m rest)

-- one option more is read
pub option_more : (s mid after : Words) (at : ℕ) (a b : Word) (ms : List Module) (m : Module) → OptionsTo (all_of s) ms at → Taken s mid at a → Taken s after mid.at b → a.text.now ≡ codes "--spur" → ShortModule m → b.text.now ≡ module_word m → OptionsTo (all_of s) (ms ++ m ∷ []) after.at
option_more s mid after at a b ms m (short, place, before) first second spur small word = (
  All-push ShortModule ms m short small,
  omega (arith, length_push ms m, first.next, second.next),
  before
      ∙ ap (λ l. module_words ms ++ l) (two s mid after at a b first second ∙ (λ i. spur i ∷ word i ∷ drop after.at (all_of s)))
      ∙ push ms m (drop after.at (all_of s)),
)

-- the module that the next word spells, if there is one
abbrev pub Spells : Option Word → Option Module → Type 0
Spells next found =
    MatchOption next (found ≡ None) (λ word. MatchOption found (IsModule word.text.now → ⊥) (λ m. ShortModule m × (word.text.now ≡ module_word m)))

module _ (r after : Words) where
  pub spelled : (next : Option Word) (found : Option Module) (m : Module) → Takes r next after → Spells next found → found ≡ Some m → (word : Word) × Takes r (Some word) after × ShortModule m × (word.text.now ≡ module_word m)
  spelled None found m takes spells some = absurd (none-some m (sym spells ∙ some))
  spelled (Some word) found m takes spells some =
      let told = rw some at spells in (word, takes, told.0, told.1)

  pub not_spelled : (next : Option Word) (found : Option Module) → Takes r next after → Spells next found → found ≡ None → IsModule (next_of r) → ⊥
  not_spelled None found takes spells none (m, short, e) =
      omega (arith, ap length (sym (get_or_past (all_of r) r.at [] takes.0) ∙ e), module_some m)
  not_spelled (Some word) found takes spells none is =
      let told = rw none at spells in told (subst IsModule (sym takes.2) is)
