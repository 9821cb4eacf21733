use Rattle.std.proofs.Common.{◌≡◌, ℕ, ◌<◌, false, length, get_or}
use Rattle.session.proofs.rows.slot_row.Given as goal

abbrev pub invariant-loop-slot : goal.invariant-loop-slot
invariant-loop-slot g l =
    record {
      whole : length l.row ≡ 255;
      held : (k : ℕ) → k < l.slot → get_or l.row k false ≡ (g.Q.Questions.shown l.plan).holds l.number k;
    }
