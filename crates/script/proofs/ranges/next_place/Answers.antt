use borrow.Author.Tests.{tests}
use Rattle.std.proofs.Common.{◌≡◌, ℕ, false, get_or, rules}
use Rattle.std.proofs.lemmas.Iterator.{first_from_Range}
use Rattle.script.proofs.ranges.next_place.Goals as goal

pub returns : goal.returns
returns c =
    let is : ℕ → Type 0 = λ k. get_or c.args.row.now k false ≡ c.args.held in
    let found = first_from_Range _ _ _ c.find.result is (λ k. is k → ⊥) c.find.ensures.ran (λ x q k. search (rules, tests)) (λ x q k. search (rules, tests)) in
    search rules
