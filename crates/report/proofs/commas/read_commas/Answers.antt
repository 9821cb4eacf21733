use Rattle.std.proofs.Common.{sym, ◌∙◌, arith}
use Rattle.std.proofs.lemmas.Iterator.Consumers.{YieldsList-at, YieldsList-turn, YieldsList-end}
use Rattle.std.proofs.lemmas.Iterator.Splits.{YieldsList-from_str_split}
use Rattle.report.proofs.CommaWords.{part_number, all_parts}
use Rattle.report.proofs.commas.read_commas.Goals as goal

pub returns-in_default : goal.returns-in_default
returns-in_default c =
    λ spelled.
    let cut = YieldsList-at c.into_iter-part-iterator.ensures.into_iter_gives (YieldsList-from_str_split 44 c.args.word.now (omega arith) c.split-part-items.ensures.text c.split-part-items.ensures.has_more c.split-part-items.ensures.pattern) in
    let turn = YieldsList-turn cut _ _ c.loop-part.yielded_by _ _ c.in-Some.part c.in-Some.is c.next.ensures.steps in
    let number = part_number c.args.word.now c.in-Some.part.now _ spelled turn.0 turn.1 in
    c.in_default.ensures number.0 number.1 number.2

pub returns : goal.returns
returns c =
    let cut = YieldsList-at c.into_iter-part-iterator.ensures.into_iter_gives (YieldsList-from_str_split 44 c.args.word.now (omega arith) c.split-part-items.ensures.text c.split-part-items.ensures.has_more c.split-part-items.ensures.pattern) in
    let whole = YieldsList-end cut _ _ c.loop-part.yielded_by _ _ c.in-None.is c.next.ensures.steps in
    all_parts c.args.word.now c.loop-part.numbers.items c.loop-part.invariant.2 (sym whole.0 ∙ c.loop-part.invariant.3)
