-- The text of an answer, without the byte 10 at its end.
use Rattle.std.specs.Prelude.{ℕ, Bool, List, [], ◌++◌, map, Some, None, Ok, Err, codes, decimal, Option, Result}
use Rattle.std.specs.List.{range_with_len}
use Rattle.planner.specs.FlowSets as sets
use Rattle.planner.specs.declared.flow_sets.FlowSet.{FlowSet}
use Rattle.script.specs.Groups.{commas, members}
use Rattle.session.specs.Refusals.{numbered, group_of, layer_of, layer_word}
use Rattle.session.specs.declared.faults.ScriptFault.{ScriptFault}

-- which of the 64 flows are in the group
unfoldable pub group_row : FlowSet → List Bool
group_row group = map (sets.members group) (range_with_len 0 64)

-- the flows of a group, ascending, with commas between them; a space before them parts them from what stands before
abbrev pub group_text : Option FlowSet → List ℕ
group_text None = []
group_text (Some group) = codes " " ++ commas (members (group_row group))

-- `no`, the number, the line, the layer, and the group if the refusal names one
abbrev pub refusal_text : ScriptFault → ℕ → List ℕ
refusal_text fault line =
    codes "no " ++ (decimal (numbered fault).0 ++ (codes " " ++ (decimal line ++ (codes " " ++ (layer_word (layer_of (numbered fault).0) ++ group_text (group_of fault))))))

-- the answer to a line: `ok`, or the refusal
abbrev pub answer_line : Result (Unit {0}) ScriptFault → ℕ → List ℕ
answer_line (Ok done) line = codes "ok"
answer_line (Err fault) line = refusal_text fault line
