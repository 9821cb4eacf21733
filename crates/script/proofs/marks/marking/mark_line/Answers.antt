use denote.Param.Always.{mut_total}
use Rattle.std.proofs.Common.{[], ◌∷◌, ◌++◌, take, drop, refl, sym, ap, ◌∙◌, subst, rules, tests, arith, append-nil, ◌==◌}
use Rattle.std.specs.List.{AllByRecursion}
use Rattle.std.proofs.lemmas.Iterator.Splits.{YieldsList-from_slice_split}
use Rattle.script.specs.Marks.{Marked}
use Rattle.script.specs.Words.{IsWord, parts}
use Rattle.script.proofs.ItemLists.{next_of, none_of, split_more, yields_of}
use Rattle.script.proofs.PartLists.{Ahead, all_ahead, fits, first_here, others_ahead, part_of}
use Rattle.script.proofs.marks.marking.mark_line.Given.{iterator-loop-part}
use Rattle.script.proofs.marks.marking.mark_line.Goals as goal

pub loop-part-init : goal.loop-part-init
loop-part-init c =
    rw c.into_iter-part-iterator.ensures.into_iter_gives (
      mut_total _ _ (λ s a. tt),
      tt,
      (
        [],
        parts c.args.line.now,
        refl,
        yields_of (YieldsList-from_slice_split _ (λ byte. byte == 32) c.args.line.now c.split-part-items.ensures.rest c.split-part-items.ensures.done c.split-part-items.ensures.closure (λ x r q k. search (rules, tests))),
        all_ahead c.args.line.now _ refl,
        c.requires,
      ),
    )

pub overflow_add-to : goal.overflow_add-to
overflow_add-to c =
    let (told, more, split, yields, ahead, marked) = c.loop-part.invariant.2 in
    let next = next_of iterator-loop-part.next_gives (λ part. part.now) c.loop-part.part-iterator c.next.new.self c.in-Some.part more yields c.in-Some.ensures.steps in
    let here = subst (Ahead c.args.line.now c.loop-part.from) next.1 ahead in
    omega (arith, fits _ _ _ _ here)

pub returns-in_err-kind_of : goal.returns-in_err-kind_of
returns-in_err-kind_of c =
    let (told, more, split, yields, ahead, marked) = c.loop-part.invariant.2 in
    let next = next_of iterator-loop-part.next_gives (λ part. part.now) c.loop-part.part-iterator c.next.new.self c.in-Some.part more yields c.in-Some.ensures.steps in
    rw c.from_residual.ensures (λ all. c.in_err-kind_of.ensures (part_of IsWord told next.0 _ (subst (AllByRecursion IsWord) (split ∙ ap (λ l. told ++ l) next.1) all)))

pub overflow_add-from : goal.overflow_add-from
overflow_add-from c =
    let (told, more, split, yields, ahead, marked) = c.loop-part.invariant.2 in
    let next = next_of iterator-loop-part.next_gives (λ part. part.now) c.loop-part.part-iterator c.next.new.self c.in-Some.part more yields c.in-Some.ensures.steps in
    let here = subst (Ahead c.args.line.now c.loop-part.from) next.1 ahead in
    omega (arith, fits _ _ _ _ here)

pub loop-part-preserved : goal.loop-part-preserved
loop-part-preserved c =
    let (told, more, split, yields, ahead, marked) = c.loop-part.invariant.2 in
    let next = next_of iterator-loop-part.next_gives (λ part. part.now) c.loop-part.part-iterator c.next.new.self c.in-Some.part more yields c.in-Some.ensures.steps in
    let here = subst (Ahead c.args.line.now c.loop-part.from) next.1 ahead in
    let after = c.in-Some.ensures.goes.on c.loop-part.invariant.1 in (
      after.0,
      after.1,
      (
        told ++ c.in-Some.part.now ∷ [],
        next.0,
        split_more told more next.0 _ _ split next.1,
        next.2,
        others_ahead _ _ _ _ here,
        c.push.ensures _ told _ marked (record { forward = omega arith; within = fits _ _ _ _ here; here = ap (λ n. take n (drop c.loop-part.from c.args.line.now)) (omega arith) ∙ first_here _ _ _ _ here; kind = c.in_ok-kind_of.ensures }),
      ),
    )

pub returns : goal.returns
returns c =
    let (told, more, split, yields, ahead, marked) = c.loop-part.invariant.2 in
    let none = none_of iterator-loop-part.next_gives (λ part. part.now) c.loop-part.part-iterator c.next.new.self more yields c.in-None.ensures.steps in
    subst (Marked c.args.line.now c.loop-part.marks) (sym (split ∙ ap (λ l. told ++ l) none ∙ append-nil told)) marked
