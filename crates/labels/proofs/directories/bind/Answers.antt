use Rattle.labels.proofs.Bindings.{found_none, bound_apart}
use Rattle.labels.proofs.directories.bind.Goals as goal

pub returns-clause-apart : goal.returns-clause-apart
returns-clause-apart g c =
    let label = g.L.Label in
    let free = found_none label.same c.args.entries.now c.args.label c.in_ok-find.field-0 c.in_ok-find.ensures c.if-is_some.ensures in
    bound_apart label.same g.met.L.Label.symmetric g.met.L.Label.transitive c.args.entries.now c.in_ok-at.at c.args.label free
