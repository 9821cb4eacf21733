-- A script's lines, told one after another.
use Rattle.std.proofs.Common.{◌≡◌, ℕ, ◌+◌, List, [], ◌∷◌, ◌++◌, sym, refl, subst, append_assoc, append-nil}
use Rattle.script.specs.Lines.{FirstLine, LinesOf}
use Rattle.script.specs.declared.commands.Command.{Command}
use Rattle.script.specs.declared.commands.Command.TheVariants.{Enrol, Admit, Withdraw, Replan, Start, Rest, Show}
use Rattle.session.specs.Output.{Answered, CommandTold, LineTold, RestTold}
use Rattle.session.specs.Sessions.{State}

-- where this is left of the script, line k is next and the state is s, whatever is told of the lines left follows `done`
abbrev pub Reaches : List ℕ → ℕ → State → List ℕ → ℕ → State → List (List ℕ) → Type 0
Reaches script first start left k s done =
    (lines : List (List ℕ)) (rest : List (List ℕ)) → LinesOf left lines → RestTold k s lines rest
    → (all : List (List ℕ)) × LinesOf script all × RestTold first start all (done ++ rest)

pub reaches_more : (script : List ℕ) (first : ℕ) (start : State) (left : List ℕ) (k : ℕ) (s t : State) (done piece : List (List ℕ)) (line after : List ℕ)
    → Reaches script first start left k s done → FirstLine left line after → LineTold k s line piece t
    → Reaches script first start after (k + 1) t (done ++ piece)
reaches_more script first start left k s t done piece line after h next told lines rest l r =
    let x = h (line ∷ lines) (piece ++ rest) (next.adds lines l) (piece, rest, t, told, r, refl) in
    (x.0, x.1, subst (λ out. RestTold first start x.0 out) (sym (append_assoc done piece rest)) x.2)

pub reaches_all : (script : List ℕ) (first : ℕ) (start : State) (left : List ℕ) (k : ℕ) (s : State) (done : List (List ℕ))
    → LinesOf left [] → Reaches script first start left k s done
    → (all : List (List ℕ)) × LinesOf script all × RestTold first start all done
reaches_all script first start left k s done h r =
    let x = r [] [] h refl in
    (x.0, x.1, subst (λ out. RestTold first start x.0 out) (append-nil done) x.2)

pub command_told : (k : ℕ) (s : State) (c : Command) (piece : List (List ℕ)) (t : State) → (c ≡ Show → ⊥) → Answered k s c piece t → CommandTold k s c piece t
command_told k s (Enrol w) piece t ne h = h
command_told k s (Admit w) piece t ne h = h
command_told k s (Withdraw name) piece t ne h = h
command_told k s Replan piece t ne h = h
command_told k s Start piece t ne h = h
command_told k s Rest piece t ne h = h
command_told k s Show piece t ne h = absurd (ne refl)
