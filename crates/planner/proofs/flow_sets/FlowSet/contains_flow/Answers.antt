use Rattle.std.proofs.Common.{◌^◌, ◌<◌, ◌≤◌, sym, ◌∙◌, arith, rules}
use Rattle.std.proofs.lemmas.Bool.{le-ltb}
use Rattle.planner.proofs.Tables.{past_flows}
use Rattle.planner.proofs.flow_sets.FlowSet.contains_flow.Goals as goal

pub returns-else-number-lt64 : goal.returns-else-number-lt64
returns-else-number-lt64 c =
    let fits : c.args.self.0 < 2 ^ 64 = search rules in
    let past : 64 ≤ c.args.number = omega arith in
    le-ltb c.args.number 64 past ∙ sym (past_flows c.args.self c.args.number fits past)
