-- What the user is told.
use Rattle.std.specs.Prelude.{ℕ, List, [], ◌++◌, codes, slice_index_or}
use Rattle.fabric.specs.declared.faults.FabricFault.{FabricFault}
use Rattle.fabric.specs.declared.faults.FabricFault.TheVariants.{OutsideLimits, BadList, Misfit}
use Rattle.fabric.specs.Faults.{fault_text}
use Rattle.report.specs.declared.misuses.Misuse.{Misuse}
use Rattle.report.specs.declared.misuses.Misuse.TheVariants.{UnknownFabric, NoDescription, NotNumbers, NotAModule, Unpaired, NotANumber, NoMemory}

-- of words that are no request; a word that is wrong is quoted
abbrev pub misuse_told : List (List ℕ) → Misuse → List ℕ
misuse_told words UnknownFabric = codes "the fabric must be line, tree or list"
misuse_told words NoDescription =
    codes "the fabric lacks its description: line N, tree PARENT,PARENT,.. or list FILE"
misuse_told words (NotNumbers place) =
    codes "'" ++ (slice_index_or words place [] ++ codes "' is no list of numbers from 0 to 65535, parted by commas")
misuse_told words (NotAModule place) = codes "'" ++ (slice_index_or words place [] ++ codes "' is no PORT,COUNT")
misuse_told words Unpaired = codes "give one pair or more, each a source and a destination"
misuse_told words (NotANumber place) = codes "'" ++ (slice_index_or words place [] ++ codes "' is no number from 0 to 65535")
misuse_told words NoMemory = codes "there is no memory for the pairs"

-- what a refusal means; nothing where its values say enough
abbrev pub reason : FabricFault → List ℕ
reason OutsideLimits = codes ": the fabric's description is outside its limits"
reason (BadList place) = []
reason Misfit = codes ": a module does not fit"

-- of a fabric or a module that is refused
abbrev pub refusal_told : FabricFault → List ℕ
refusal_told fault = fault_text fault ++ reason fault
