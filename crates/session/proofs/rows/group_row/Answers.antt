use Rattle.std.proofs.Common.{false, rules}
use Rattle.planner.specs.FlowSets.{members}
use Rattle.session.specs.Answers.{group_row}
use Rattle.session.proofs.FromFn.{from_fn_is}
use Rattle.session.proofs.rows.group_row.Goals as goal

pub returns : goal.returns
unfolding group_row
returns c =
    from_fn_is _ (members c.args.group) _ (λ i y q k. search rules) c.from_fn.result false 64 c.from_fn.ensures.items
