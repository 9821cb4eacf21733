-- The refusals of this crate.
use Rattle.std.specs.Prelude.{ℕ, List, [], ◌∷◌, ◌++◌, codes, decimal}
use Rattle.std.specs.List.{flat_map}
use Rattle.fabric.specs.declared.faults.FabricFault.{FabricFault}
use Rattle.fabric.specs.declared.faults.FabricFault.TheVariants.{OutsideLimits, BadList, Misfit}

-- each refusal by its number and the values that come with it
abbrev pub numbered : FabricFault → ℕ × List ℕ
numbered OutsideLimits = (2, [])
numbered (BadList place) = (3, place ∷ [])
numbered Misfit = (18, [])

-- how a refusal is told: `no`, its number and its values, parted by spaces
abbrev pub fault_text : FabricFault → List ℕ
fault_text fault = codes "no" ++ flat_map (λ n. codes " " ++ decimal n) ((numbered fault).0 ∷ (numbered fault).1)
