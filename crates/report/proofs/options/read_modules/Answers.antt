use Rattle.std.proofs.Common.{◌≡◌, ◌+◌, [], get_or, vec_items, refl, ◌∙◌, subst, rules}
use Rattle.report.specs.Requests.{IsModule}
use Rattle.report.specs.declared.misuses.Misuse.TheVariants.{NotAModule}
use Rattle.report.proofs.Refusals.{handed_on}
use Rattle.report.proofs.OptionWords.{option_more, Spells, spelled, not_spelled}
use Rattle.report.proofs.WordPlaces.{taken}
use Rattle.report.proofs.options.read_modules.Goals as goal

pub returns-in_err-module-clause-read : goal.returns-in_err-module-clause-read
returns-in_err-module-clause-read c =
    let first = taken c.args.words.now c.loop-spur.words c.next_if.new.self c.loop-spur.invariant.0 c.in-Some.spur c.in-Some.ensures.0 in
    let spells : Spells c.next.result c.and_then.result = search rules in
    let none = not_spelled c.next_if.new.self c.next.new.self c.next.result c.and_then.result c.next.ensures.steps spells c.in_err-module.ensures.ok_part in
    let fault = rw c.in_err-module.ensures.ok_part at c.in_err-module.ensures.value in
    let is : c.in_err-module.field-0.0 ≡ NotAModule (c.in-Some.spur.place + 1) = cc in
    handed_on _ _ _ _ c.from_residual.ensures.1
    (rw (is, first.place) (vec_items c.loop-spur.modules, c.loop-spur.words.at, c.loop-spur.invariant.1, first.text ∙ (c.in-Some.ensures.0.2 ∙ c.in-Some.ensures.1), refl, subst (λ w. IsModule w → ⊥) (λ i. get_or (first.same i) (first.next i) []) none))

pub loop-spur-preserved : goal.loop-spur-preserved
loop-spur-preserved c =
    let first = taken c.args.words.now c.loop-spur.words c.next_if.new.self c.loop-spur.invariant.0 c.in-Some.spur c.in-Some.ensures.0 in
    let spells : Spells c.next.result c.and_then.result = search rules in
    let word = spelled c.next_if.new.self c.next.new.self c.next.result c.and_then.result c.in_ok-module.module c.next.ensures.steps spells c.in_ok-module.ensures.ok_part in
    let second = taken c.args.words.now c.next_if.new.self c.next.new.self first.same word.0 word.1 in
    (second.same, rw c.in_ok-push.ensures.items (option_more c.args.words.now c.next_if.new.self c.next.new.self c.loop-spur.words.at c.in-Some.spur word.0 (vec_items c.loop-spur.modules) c.in_ok-module.module c.loop-spur.invariant.1 first second (c.in-Some.ensures.0.2 ∙ c.in-Some.ensures.1) word.2 word.3))
