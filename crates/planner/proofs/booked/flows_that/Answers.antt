use Rattle.std.proofs.Common.{◌≡◌, ℕ, ◌+◌, ◌<◌, Bool, true, eqb, sym, refl, ap, ◌∙◌, subst, ⊎_elim, arith}
use Rattle.std.proofs.lemmas.Bool.{cases_eq, eq-eqb, ne_eqb, cond-true, cond-false}
use Rattle.planner.specs.FlowSets.{members}
use Rattle.planner.specs.declared.flow_numbers.FlowNumber.{FlowNumber}
use Rattle.planner.specs.declared.flow_sets.FlowSet.{FlowSet}
use Rattle.planner.proofs.booked.flows_that.Goals as goal
use Rattle.planner.proofs.booked.flows_that.Goals.{then-test, else-test}

-- one more flow was tested
more : (Post : FlowNumber → Bool → Type 0) (flow : FlowNumber) (old new : ℕ → Bool) → Post flow (new flow.number) → ((n : ℕ) → (n ≡ flow.number → ⊥) → new n ≡ old n) →
    ((n : ℕ) → n < flow.number → (f : FlowNumber) × (f.number ≡ n) × Post f (old n)) →
    (n : ℕ) → n < flow.number + 1 → (f : FlowNumber) × (f.number ≡ n) × Post f (new n)
more Post flow old new here other passed n below =
    ⊎_elim
    (λ (e : n ≡ flow.number). (flow, sym e, subst (λ k. Post flow (new k)) (sym e) here))
    (λ ne. let p = passed n (omega arith) in (p.0, p.1, subst (Post p.0) (sym (other n ne)) p.2))
    (cases_eq n flow.number)

pub loop-number-preserved : goal.loop-number-preserved
loop-number-preserved g c =
    let k = c.loop-number.number in
    let old = members c.loop-number.flows in
    elim c.if-test.branch [
      | then-test w ↦
          let new : (n : ℕ) → members c.if-test.flows n ≡ _ = λ n. ap (λ (x : FlowSet). members x n) w.flows-is ∙ w.insert.ensures n in
          let other : (n : ℕ) → (n ≡ k → ⊥) → members c.if-test.flows n ≡ old n = λ n ne. new n ∙ cond-false (eqb n k) true (old n) (ne_eqb n k ne) in
          let here : members c.if-test.flows k ≡ c.test.result = new k ∙ cond-true (eqb k k) true (old k) (eq-eqb k k refl) ∙ sym w.if-test.true in
          record {
            passed = more (goal.T-post g c.args.test) _ old (members c.if-test.flows) (subst (goal.T-post g c.args.test _) (sym here) c.test.ensures) other c.loop-number.invariant.passed;
            others = λ n past. other n (λ e. absurd (omega arith)) ∙ c.loop-number.invariant.others n (omega arith);
          }
      | else-test w ↦
          let other : (n : ℕ) → members c.if-test.flows n ≡ old n = λ n. ap (λ (x : FlowSet). members x n) w.flows-is in
          let here : members c.if-test.flows k ≡ c.test.result = other k ∙ c.loop-number.invariant.others k (omega arith) ∙ sym w.if-test.false in
          record {
            passed = more (goal.T-post g c.args.test) _ old (members c.if-test.flows) (subst (goal.T-post g c.args.test _) (sym here) c.test.ensures) (λ n _. other n) c.loop-number.invariant.passed;
            others = λ n past. other n ∙ c.loop-number.invariant.others n (omega arith);
          }
    ]

pub returns-clause-passed : goal.returns-clause-passed
returns-clause-passed g c = λ n below. c.loop-number.invariant.passed n (omega arith)
