use Rattle.std.proofs.Common.{refl, rules, arith}
use Rattle.script.proofs.MarkLists.{kept_more, past_more}
use Rattle.script.proofs.marks.Marks.push.Goals as goal

pub returns-then-is_err : goal.returns-then-is_err
returns-then-is_err c =
    λ line words word old here.
    past_more line c.args.self.now _ words c.args.mark word old here (search rules) (search rules) (λ ws past. c.and-self.ensures ws word past here.kind)

pub returns-else-is_err : goal.returns-else-is_err
returns-else-is_err c =
    λ line words word old here.
    kept_more line c.args.self.now _ words c.args.mark word old here (grind arith) (search rules) refl
