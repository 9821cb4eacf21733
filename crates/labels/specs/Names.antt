-- Names, as labels of flows.
use Rattle.std.specs.Prelude.{ℕ, List, take}
use Rattle.labels.specs.declared.names.Name.{Name}

-- the bytes of a name
abbrev pub spelled : Name → List ℕ
spelled name = take name.count name.letters
