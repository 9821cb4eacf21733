use Rattle.std.proofs.Common.{◌≡◌, ◌≤◌, true, map, length, vec_items, string_bytes, sym, ◌∙◌, arith, true-eqb, false-eqb}
use Rattle.std.proofs.lemmas.Bool.{both_ways}
use Rattle.report.specs.Requests.{wants_pairs}
use Rattle.report.proofs.Refusals.{handed_on}
use Rattle.report.proofs.RequestWords.{turned_away, no_pairs, whole}
use Rattle.report.proofs.requests.read_request.Goals as goal
use Rattle.report.proofs.requests.read_request.Goals.{else-is_empty-via-then-is_empty+else-wants_pairs, else-is_empty-via-else-is_empty}

pub returns-in_err-modules : goal.returns-in_err-modules
returns-in_err-modules c =
    let told = rw c.new-words.ensures.0 at c.in_err-modules.ensures.read in
    handed_on _ _ _ _ c.from_residual.ensures.1 (turned_away _ _ told)

pub returns-in_err-description : goal.returns-in_err-description
returns-in_err-description c =
    let all = c.in_ok-modules.ensures.same ∙ c.new-words.ensures.0 in
    let told = rw all at c.in_err-description.ensures.read in
    handed_on _ _ _ _ c.from_residual-in_err-description.ensures.1 (turned_away _ _ told)

pub returns-in_err-pairs : goal.returns-in_err-pairs
returns-in_err-pairs c =
    let all = c.in_ok-modules.ensures.same ∙ c.new-words.ensures.0 in
    let still = c.in_ok-description.ensures.same ∙ all in
    let told = rw still at c.in_err-pairs.ensures in
    handed_on _ _ _ _ c.from_residual-in_err-pairs.ensures.1 (turned_away _ _ told)

pub returns-then-wants_pairs : goal.returns-then-wants_pairs
returns-then-wants_pairs c =
    let all = c.in_ok-modules.ensures.same ∙ c.new-words.ensures.0 in
    let still = c.in_ok-description.ensures.same ∙ all in
    let fabric = rw all at c.in_ok-description.ensures.read.1 in
    let pairs = rw still at c.in_ok-pairs.ensures.1 in
    let none : length (vec_items c.in_ok-pairs.pairs) ≡ 0 = omega (arith, c.in_ok-pairs.pairs.ok.0, true-eqb _ 0 c.if-is_empty.ensures) in
    turned_away _ _ (no_pairs (map string_bytes c.args.words.now) _ _ _ fabric pairs none (sym c.if-wants_pairs.ensures))

pub returns : goal.returns
returns c =
    let all = c.in_ok-modules.ensures.same ∙ c.new-words.ensures.0 in
    let still = c.in_ok-description.ensures.same ∙ all in
    let options = rw c.new-words.ensures.0 at c.in_ok-modules.ensures.read.0 in
    let fabric = rw all at c.in_ok-description.ensures.read.1 in
    let pairs = rw still at c.in_ok-pairs.ensures.1 in
    let some : wants_pairs c.in_ok-description.description ≡ true → 1 ≤ length (vec_items c.in_ok-pairs.pairs) = λ wants.
    elim c.else-is_empty.branch [
      | else-is_empty-via-then-is_empty+else-wants_pairs w ↦ absurd (both_ways _ (sym w.if-wants_pairs.ensures) wants)
      | else-is_empty-via-else-is_empty w ↦ omega (arith, c.in_ok-pairs.pairs.ok.0, false-eqb _ 0 w.if-is_empty.ensures)
    ] in
    whole (map string_bytes c.args.words.now) _ _ _ _ _ options c.in_ok-description.ensures.read.0 fabric c.in_ok-pairs.ensures.0 pairs some
