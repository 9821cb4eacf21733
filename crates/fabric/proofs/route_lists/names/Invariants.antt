use Rattle.std.proofs.Common.{◌≡◌, false, take}
use Rattle.fabric.specs.RouteLists.{among}
use Rattle.fabric.proofs.route_lists.names.Given as goal

-- none of the bytes so far is the link
abbrev pub invariant-loop-byte : goal.invariant-loop-byte
invariant-loop-byte l = among l.link (take l.byte-index l.links) ≡ false
