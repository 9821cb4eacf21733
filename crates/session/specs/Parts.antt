-- What the inner functions of a session do.
use Rattle.std.specs.Prelude.{◌≡◌, ℕ, List}
use Rattle.fabric.specs.declared.Fabric.{Ghosts}
use Rattle.planner.specs.Outcomes.{any_shows}
use Rattle.session.specs.Output.{Handed}
use Rattle.session.specs.Sessions.{State}
use Rattle.session.specs.declared.sessions.Session.{Session}
use Rattle.session.specs.declared.tellers.Teller.{Teller}

-- what a session shows: its plan, over the fabric's meaning, and the labels
abbrev pub state_of : {F : Type 0} {f : Ghosts F} → Session F f → State
state_of {f = f} s = record { shown = any_shows f.meaning s.plan; labels = s.labels }

-- the teller handed these lines to its printer, one after the other, and has it still
abbrev pub Tells : {P : Type 0} → (P → List ℕ → P → Type 0) → Teller P → List (List ℕ) → Teller P → Type 0
Tells took w lines v = Handed took w.out.now lines v.out.now × (v.out.ghost_name ≡ w.out.ghost_name)
