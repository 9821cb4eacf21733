use Rattle.std.proofs.Common.{◌≡◌, ◌<◌, List, [], ℕ, length, string_bytes, None, Some, Option, MatchOption, sym, refl, ap, ◌∙◌, arith}
use Rattle.std.proofs.lemmas.Bool.{both_ways}
use Rattle.std.proofs.lemmas.List.{length-map, get_or-map}
use Rattle.std.proofs.lemmas.Slice.Eq.{bytes_eq-Decides}
use Rattle.report.specs.Words.{all_of, next_of, Takes}
use Rattle.report.specs.declared.words.Word.{Word}
use Rattle.report.specs.declared.words.Words.{Words}
use Rattle.report.proofs.words.Words.next_if.Goals as goal

-- a reader that has a word left gives it
given : (r after : Words) (o : Option Word) (text : List ℕ) → Takes r o after → r.at < length r.all.now → next_of r ≡ text → MatchOption o ((after ≡ r) × (r.at < length (all_of r) → next_of r ≡ text → ⊥)) (λ w. Takes r (Some w) after × (next_of r ≡ text))
given r after None text taken within same = absurd (omega (arith, taken.0, length-map r.all.now string_bytes))
given r after (Some w) text taken within same = (taken, same)

pub returns-then-eq : goal.returns-then-eq
returns-then-eq c =
    let found = c.in_ok-get.ensures.lookup in
    let word = get_or-map string_bytes c.args.self.now.all.now c.args.self.now.at c.in_ok-get.field-0.now [] found.3.0 in
    let same = (bytes_eq-Decides c.as_str.result.now c.args.text.now).0 (sym c.if-eq.ensures) in
    given _ _ _ _ c.next.ensures.steps found.3.0 (word ∙ ap string_bytes (sym found.1) ∙ sym c.as_str.ensures.value ∙ same)

pub returns-else-eq : goal.returns-else-eq
returns-else-eq c =
    let found = c.in_ok-get.ensures.lookup in
    let word = get_or-map string_bytes c.args.self.now.all.now c.args.self.now.at c.in_ok-get.field-0.now [] found.3.0 in (
      refl,
      λ within same.
          both_ways _ (sym c.if-eq.ensures) ((bytes_eq-Decides c.as_str.result.now c.args.text.now).1 (c.as_str.ensures.value ∙ ap string_bytes found.1 ∙ sym word ∙ same)),
    )
