-- What a whole run prints, from its first lines and the rest.
use Rattle.std.proofs.Common.{◌≡◌, ℕ, ◌<◌, ◌≤◌, List, [], ◌∷◌, length, IfOk, Ok, Err, Result, refl, subst, inl, inr}
use Rattle.std.proofs.lemmas.Result.{IfOk-weaker}
use Rattle.fabric.specs.Meaning.{Meaning}
use Rattle.script.proofs.LineLists.{stand}
use Rattle.script.specs.Lines.{FirstLine, LinesOf}
use Rattle.session.specs.Answers.{answer_line}
use Rattle.session.specs.Output.{FabricLine, OpeningLine, OpeningTold, Opens, Output, RestTold, unlabelled}
use Rattle.session.specs.Parts.{Tells}
use Rattle.session.specs.Sessions.{State}
use Rattle.session.specs.declared.faults.ScriptFault.{ScriptFault}
use Rattle.session.specs.declared.faults.ScriptFault.TheVariants.{NoForm}
use Rattle.session.specs.declared.printers.RunFault.{RunFault}
use Rattle.session.specs.declared.tellers.Teller.{Teller}
use Rattle.session.proofs.Handing.{tells_more}

module _ {P : Type 0} (took : P → List ℕ → P → Type 0) (r : Result (Unit {0}) RunFault) where
  -- what is told from line 3 on
  abbrev pub GoesOn : List ℕ → State → Teller P → Teller P → Type 0
  GoesOn left s w v =
      (lines : List (List ℕ)) × (told : List (List ℕ)) × LinesOf left lines × RestTold 3 s lines told × Tells took w told v

  -- what is told from line 2 on, after the answer to line 1
  abbrev pub OpensOn : List ℕ → Meaning → Teller P → Teller P → Type 0
  OpensOn left m w v =
      (lines : List (List ℕ)) × (told : List (List ℕ)) × LinesOf left lines × OpeningTold m lines told × Tells took w (answer_line (Ok tt) 1 ∷ told) v

  abbrev pub Runs : List ℕ → Teller P → Teller P → Type 0
  Runs script w v = (lines : List (List ℕ)) × Output script lines × Tells took w lines v

  pub opening_accepted : (left line after : List ℕ) (m : Meaning) (period : ℕ) (s : State) (w u x v : Teller P)
      → FirstLine left line after → OpeningLine line (Ok period) → Opens m period s.shown → s.labels ≡ unlabelled
      → Tells took w (answer_line (Ok tt) 1 ∷ []) u → Tells took u (answer_line (Ok tt) 2 ∷ []) x
      → IfOk r (λ _. GoesOn after s x v) → IfOk r (λ _. OpensOn left m w v)
  opening_accepted left line after m period s w u x v first ol op none h k =
      IfOk-weaker r (λ _. GoesOn after s x v) (λ _. OpensOn left m w v) (λ _ q. (line ∷ q.0, answer_line (Ok tt) 2 ∷ q.1, first.adds q.0 q.2, inr (period, s.shown, q.1, ol, op, subst (λ l. RestTold 3 (record { shown = s.shown; labels = l }) q.0 q.1) none q.3, refl), tells_more took (answer_line (Ok tt) 1 ∷ []) (answer_line (Ok tt) 2 ∷ q.1) w u v h (tells_more took (answer_line (Ok tt) 2 ∷ []) q.1 u x v k q.4)))

  pub opening_refused : (left line after : List ℕ) (m : Meaning) (f : ScriptFault) (w u v : Teller P)
      → FirstLine left line after → OpeningLine line (Err f)
      → Tells took w (answer_line (Ok tt) 1 ∷ []) u
      → IfOk r (λ _. Tells took u (answer_line (Err f) 2 ∷ []) v) → IfOk r (λ _. OpensOn left m w v)
  opening_refused left line after m f w u v first ol h =
      let all = stand after in
      IfOk-weaker r (λ _. Tells took u (answer_line (Err f) 2 ∷ []) v) (λ _. OpensOn left m w v) (λ _ q. (line ∷ all.0, answer_line (Err f) 2 ∷ [], first.adds all.0 all.1, inl (f, ol, refl), tells_more took (answer_line (Ok tt) 1 ∷ []) (answer_line (Err f) 2 ∷ []) w u v h q))

  pub fabric_accepted : (script whole line after : List ℕ) (m : Meaning) (w v : Teller P)
      → length script ≤ 16384 → whole ≡ script → FirstLine whole line after → FabricLine line (Ok m)
      → IfOk r (λ _. OpensOn after m w v) → IfOk r (λ _. Runs script w v)
  fabric_accepted script whole line after m w v few same first fl =
      IfOk-weaker r (λ _. OpensOn after m w v) (λ _. Runs script w v) (λ _ q. (answer_line (Ok tt) 1 ∷ q.1, inr (few, (line ∷ q.0, subst (λ l. LinesOf l (line ∷ q.0)) same (first.adds q.0 q.2), inr (m, q.1, fl, q.3, refl))), q.4))

  pub fabric_refused : (script whole line after : List ℕ) (f : ScriptFault) (w v : Teller P)
      → length script ≤ 16384 → whole ≡ script → FirstLine whole line after → FabricLine line (Err f)
      → IfOk r (λ _. Tells took w (answer_line (Err f) 1 ∷ []) v) → IfOk r (λ _. Runs script w v)
  fabric_refused script whole line after f w v few same first fl =
      let all = stand after in
      IfOk-weaker r (λ _. Tells took w (answer_line (Err f) 1 ∷ []) v) (λ _. Runs script w v) (λ _ q. (answer_line (Err f) 1 ∷ [], inr (few, (line ∷ all.0, subst (λ l. LinesOf l (line ∷ all.0)) same (first.adds all.0 all.1), inl (f, fl, refl))), q))

  pub too_long : (script : List ℕ) (w v : Teller P) → 16384 < length script
      → IfOk r (λ _. Tells took w (answer_line (Err NoForm) 0 ∷ []) v) → IfOk r (λ _. Runs script w v)
  too_long script w v long =
      IfOk-weaker r (λ _. Tells took w (answer_line (Err NoForm) 0 ∷ []) v) (λ _. Runs script w v) (λ _ q. (answer_line (Err NoForm) 0 ∷ [], inl (long, refl), q))
