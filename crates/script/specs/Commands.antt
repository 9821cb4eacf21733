-- Commands, by how they are spelled.
use Rattle.std.specs.Prelude.{◌≡◌, ℕ, List, [], ◌∷◌, codes, decimal}
use Rattle.labels.specs.Names.{spelled}
use Rattle.script.specs.declared.commands.Command.{Command}
use Rattle.script.specs.declared.commands.Command.TheVariants.{Enrol, Admit, Withdraw, Replan, Start, Rest, Show}
use Rattle.script.specs.declared.commands.Wanted.{Wanted}
use Rattle.script.specs.Words.{Short, spaced}

-- a flow's name, its number, its ends and its demand
abbrev pub wanted_words : Wanted → List (List ℕ)
wanted_words flow =
    spelled flow.name ∷ decimal flow.number ∷ decimal flow.source ∷ decimal flow.destination ∷ decimal flow.demand ∷ []

abbrev pub command_words : Command → List (List ℕ)
command_words (Enrol flow) = codes "enrol" ∷ wanted_words flow
command_words (Admit flow) = codes "admit" ∷ wanted_words flow
command_words (Withdraw name) = codes "withdraw" ∷ spelled name ∷ []
command_words Replan = codes "replan" ∷ []
command_words Start = codes "start" ∷ []
command_words Rest = codes "rest" ∷ []
command_words Show = codes "show" ∷ []

-- how a command is spelled
abbrev pub spell : Command → List ℕ
spell command = spaced (command_words command)

-- its numbers are those of a script
abbrev pub ShortWanted : Wanted → Type 0
ShortWanted flow = Short flow.number × Short flow.source × Short flow.destination × Short flow.demand

abbrev pub ShortCommand : Command → Type 0
ShortCommand (Enrol flow) = ShortWanted flow
ShortCommand (Admit flow) = ShortWanted flow
ShortCommand (Withdraw name) = Unit {0}
ShortCommand Replan = Unit {0}
ShortCommand Start = Unit {0}
ShortCommand Rest = Unit {0}
ShortCommand Show = Unit {0}

-- the line is the spelling of the command
abbrev pub IsCommand : List ℕ → Command → Type 0
IsCommand line command = ShortCommand command × (line ≡ spell command)
