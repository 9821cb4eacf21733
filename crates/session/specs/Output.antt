-- What is printed for a script, line by line. Each printed line ends with byte 10, which the printer adds.
use Rattle.std.specs.Prelude.{◌≡◌, ℕ, ◌+◌, ◌<◌, ◌≤◌, ◌⊎◌, List, [], ◌∷◌, ◌++◌, length, replicate, None, Ok, Err, Option, Result}
use Rattle.fabric.specs.Faults as of_fabrics
use Rattle.fabric.specs.Lines.{LineSize, line_meaning}
use Rattle.fabric.specs.Meaning.{Meaning}
use Rattle.fabric.specs.Trees.{TreeLawful, tree_meaning}
use Rattle.labels.specs.declared.names.Name.{Name}
use Rattle.planner.specs.PlanFaults as of_plans
use Rattle.planner.specs.Shown.{Shown, Opened}
use Rattle.script.specs.Commands.{IsCommand}
use Rattle.script.specs.Descriptions.{IsDescription, held}
use Rattle.script.specs.Lines.{LinesOf}
use Rattle.script.specs.Openings.{IsOpening}
use Rattle.script.specs.declared.commands.Command.{Command}
use Rattle.script.specs.declared.commands.Command.TheVariants.{Enrol, Admit, Withdraw, Replan, Start, Rest, Show}
use Rattle.script.specs.declared.descriptions.Description.{Description}
use Rattle.script.specs.declared.descriptions.Description.TheVariants.{Line, Tree, LongTree}
use Rattle.session.specs.Answers.{answer_line}
use Rattle.session.specs.Sessions.{Answer, State, Obeyed}
use Rattle.session.specs.Shows.{ShowsBelow}
use Rattle.session.specs.declared.faults.ScriptFault.{ScriptFault}
use Rattle.session.specs.declared.faults.ScriptFault.TheVariants.{NoForm, WrongState, Fabric, Label, Plan}

-- a command other than `show` is obeyed, and its answer printed
abbrev pub Answered : ℕ → State → Command → List (List ℕ) → State → Type 0
Answered k s c piece t = (a : Answer) × Obeyed s c a t × (piece ≡ answer_line a k ∷ [])

-- `show` prints the lines of the booked flows, has no answer and changes nothing
abbrev pub CommandTold : ℕ → State → Command → List (List ℕ) → State → Type 0
CommandTold k s (Enrol w) piece t = Answered k s (Enrol w) piece t
CommandTold k s (Admit w) piece t = Answered k s (Admit w) piece t
CommandTold k s (Withdraw name) piece t = Answered k s (Withdraw name) piece t
CommandTold k s Replan piece t = Answered k s Replan piece t
CommandTold k s Start piece t = Answered k s Start piece t
CommandTold k s Rest piece t = Answered k s Rest piece t
CommandTold k s Show piece t = ShowsBelow s 64 piece × (t ≡ s)

-- line k, after the first two: a command, or no form
abbrev pub LineTold : ℕ → State → List ℕ → List (List ℕ) → State → Type 0
LineTold k s line piece t =
    (((c : Command) → IsCommand line c → ⊥) × (piece ≡ answer_line (Err NoForm) k ∷ []) × (t ≡ s))
    ⊎ ((c : Command) × IsCommand line c × CommandTold k s c piece t)

-- the lines from number k on
abbrev pub RestTold : ℕ → State → List (List ℕ) → List (List ℕ) → Type 0
RestTold k s [] out = out ≡ []
RestTold k s (line ∷ lines) out =
    (piece : List (List ℕ)) × (rest : List (List ℕ)) × (t : State) × LineTold k s line piece t × RestTold (k + 1) t lines rest × (out ≡ piece ++ rest)

-- the fabric that a description builds: a line of 2 to 128 terminals, or a tree whose parents are lawful
abbrev pub Builds : Description → Meaning → Type 0
Builds (Line n) m = LineSize n × (m ≡ line_meaning n)
Builds (Tree parents) m = TreeLawful (held parents) × (m ≡ tree_meaning (held parents))
Builds LongTree m = ⊥

-- what line 1 comes to: a fabric; 6 for another form; 2 for a description that builds none
abbrev pub FabricLine : List ℕ → Result Meaning ScriptFault → Type 0
FabricLine line (Ok m) = (d : Description) × IsDescription line d × Builds d m
FabricLine line (Err NoForm) = (d : Description) → IsDescription line d → ⊥
FabricLine line (Err (Fabric e)) =
    (d : Description) × IsDescription line d × ((m : Meaning) → Builds d m → ⊥) × (of_fabrics.numbered e ≡ (2, []))
FabricLine line (Err WrongState) = ⊥
FabricLine line (Err (Label e)) = ⊥
FabricLine line (Err (Plan e)) = ⊥

-- what line 2 comes to: a period; 6 for another form; 1 for a period that is not 1 to 255
abbrev pub OpeningLine : List ℕ → Result ℕ ScriptFault → Type 0
OpeningLine line (Ok period) = IsOpening line period
OpeningLine line (Err NoForm) = (period : ℕ) → IsOpening line period → ⊥
OpeningLine line (Err (Plan e)) =
    (period : ℕ) × IsOpening line period × ((1 ≤ period) × (period ≤ 255) → ⊥) × (of_plans.numbered e ≡ (1, []))
OpeningLine line (Err WrongState) = ⊥
OpeningLine line (Err (Fabric e)) = ⊥
OpeningLine line (Err (Label e)) = ⊥

-- no flow has a label yet
abbrev pub unlabelled : List (Option Name)
unlabelled = replicate 64 None

-- the plan is opened empty over the fabric, with the period
pub record Opens (m : Meaning) (period : ℕ) (s : Shown) : Type 0 where
  pub opened : Opened s
  pub fabric : s.meaning ≡ m
  pub length : s.period ≡ period

-- line 2 and those after it; a refusal here ends the run, as the script's end does
abbrev pub OpeningTold : Meaning → List (List ℕ) → List (List ℕ) → Type 0
OpeningTold m [] out = out ≡ []
OpeningTold m (line ∷ lines) out =
    ((f : ScriptFault) × OpeningLine line (Err f) × (out ≡ answer_line (Err f) 2 ∷ []))
    ⊎ ((period : ℕ) × (s : Shown) × (rest : List (List ℕ)) × OpeningLine line (Ok period) × Opens m period s × RestTold 3 (record { shown = s; labels = unlabelled }) lines rest × (out ≡ answer_line (Ok tt) 2 ∷ rest))

-- all lines; a refusal of the first ends the run
abbrev pub Told : List (List ℕ) → List (List ℕ) → Type 0
Told [] out = out ≡ []
Told (line ∷ lines) out =
    ((f : ScriptFault) × FabricLine line (Err f) × (out ≡ answer_line (Err f) 1 ∷ []))
    ⊎ ((m : Meaning) × (rest : List (List ℕ)) × FabricLine line (Ok m) × OpeningTold m lines rest × (out ≡ answer_line (Ok tt) 1 ∷ rest))

-- a script of more than 16,384 bytes is refused as a whole, under the number 0
abbrev pub Output : List ℕ → List (List ℕ) → Type 0
Output script out =
    ((16384 < length script) × (out ≡ answer_line (Err NoForm) 0 ∷ []))
    ⊎ ((length script ≤ 16384) × ((lines : List (List ℕ)) × LinesOf script lines × Told lines out))

-- calls of the printer led from w to v, and took these lines, one after the other
abbrev pub Handed : {P : Type 0} → (P → List ℕ → P → Type 0) → P → List (List ℕ) → P → Type 0
Handed took w [] v = v ≡ w
Handed {P} took w (line ∷ lines) v = (u : P) × took w line u × Handed took u lines v
