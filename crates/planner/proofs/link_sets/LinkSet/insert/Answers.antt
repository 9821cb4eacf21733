use Rattle.std.proofs.Common.{rules}
use Rattle.planner.proofs.LinkBits.{insert_at}
use Rattle.planner.proofs.link_sets.LinkSet.insert.Goals as goal

pub returns : goal.returns
returns c = λ k. rw c.from-at.ensures (insert_at c.args.self.now.words c.args.link k (search rules) c.requires)
