use Rattle.script.proofs.MemberLists.{stand}
use Rattle.script.proofs.laws.members_stand.Goals as goal

pub returns : goal.returns
returns c = stand
