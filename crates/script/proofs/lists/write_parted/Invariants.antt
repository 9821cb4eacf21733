use Rattle.std.proofs.Common.{◌≡◌, ℕ, List, ◌++◌, codes, Some}
use Rattle.std.specs.List.{flat_map}
use Rattle.std.specs.Fmt.{IsPlainFormatter, HasWritten}
use Rattle.std.specs.Iterator.{AlwaysYields}
use Rattle.script.proofs.lists.write_parted.Given as goal

-- of what comes after the first, the items so far are written
abbrev pub invariant-loop-item : goal.invariant-loop-item
invariant-loop-item g l =
    (goal.iterator-loop-item g).can_next l.item-iterator
    × (goal.iterator-loop-item g).is_finite l.item-iterator
    × ((rest : List _) (show : _ → List ℕ)
    → AlwaysYields g.I.Iterator.next_gives (λ item. item) l.initial.item-iterator rest
    → ((item : _) → g.I.Item.Display.output item ≡ Some (show item))
    → IsPlainFormatter l.initial.f
    → (told : List _) × (more : List _)
    × (rest ≡ told ++ more)
    × AlwaysYields g.I.Iterator.next_gives (λ item. item) l.item-iterator more
    × HasWritten g.W.Write.write_str_gives l.initial.f (flat_map (λ next. codes "," ++ show next) told) l.f)
