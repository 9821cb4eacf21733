use Rattle.std.proofs.Common.{◌≡◌, map, vec_items, decimal}
use Rattle.std.specs.List.{AllByRecursion}
use Rattle.report.specs.Spelled.{Short}
use Rattle.report.proofs.commas.read_commas.Given as goal

-- the parts so far spell the numbers so far
abbrev pub invariant-loop-part : goal.invariant-loop-part
invariant-loop-part l =
    (goal.iterator-loop-part).can_next l.part-iterator
    × (goal.iterator-loop-part).is_finite l.part-iterator
    × AllByRecursion Short (vec_items l.numbers)
    × (map (λ x. x.now) l.yielded ≡ map decimal (vec_items l.numbers))
