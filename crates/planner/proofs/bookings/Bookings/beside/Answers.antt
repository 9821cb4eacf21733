use Rattle.std.proofs.Common.{sym, ◌∙◌}
use Rattle.planner.proofs.Memory.{none_overlaps, unbooked}
use Rattle.planner.proofs.bookings.Bookings.beside.Goals as goal

pub returns-in_default : goal.returns-in_default
returns-in_default c = λ n. c.empty.ensures n ∙ sym (none_overlaps c.args.self.now c.args.number.number n (sym c.get.ensures ∙ unbooked c.get.result c.in_default.not-Some))
