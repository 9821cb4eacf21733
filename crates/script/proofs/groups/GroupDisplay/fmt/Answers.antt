use Rattle.std.proofs.Common.{decimal, refl, rules}
use Rattle.std.proofs.lemmas.Iterator.{YieldsList-from_slice}
use Rattle.std.proofs.lemmas.Iterator.Consumers.{YieldsList-at, YieldsList-from_enumerate, YieldsList-from_filter_map}
use Rattle.script.proofs.ItemLists.{by_chain}
use Rattle.script.proofs.MemberLists.{number_held, members_are}
use Rattle.script.proofs.groups.GroupDisplay.fmt.Goals as goal

pub returns-clause-writes : goal.returns-clause-writes
returns-clause-writes g c =
    let row = c.args.self.now.0.now in
    rw (members_are 0 row) at (by_chain (λ all yields. c.write_parted.ensures all decimal yields (λ n. refl)) _
    (YieldsList-from_filter_map _ number_held (YieldsList-at c.filter_map-members.ensures.source (YieldsList-from_enumerate (YieldsList-at c.enumerate-row.ensures.source (YieldsList-from_slice row (cc))) (cc))) c.filter_map-members.ensures.closure (λ x r q k. search rules)))
