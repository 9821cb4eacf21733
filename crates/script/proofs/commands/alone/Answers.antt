use Rattle.script.proofs.MarkLists.{none_stand}
use Rattle.script.proofs.commands.alone.Goals as goal

pub returns : goal.returns
returns c = rw (c.then_some.ensures, c.is_empty.ensures) (none_stand c.args.arguments.now c.args.command)
