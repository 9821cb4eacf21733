use Rattle.std.proofs.Common.{ℕ, ◌<◌, ◌≤◌, Some, None, Option, arith, rules, MatchOption}
use Rattle.std.proofs.lemmas.Iterator.{first_from_Range}
use borrow.Author.Tests.{tests}
use Rattle.planner.specs.Questions.{Sends}
use Rattle.planner.proofs.questions.Questions.sender.Goals as goal

-- the first of the numbers below 64 is the first of all, since no other sends
first : (Sent : ℕ → Type 0) (found : Option ℕ) → ((n : ℕ) → Sent n → n < 64) →
    MatchOption found ((k : ℕ) → 0 ≤ k → k < 64 → Sent k → ⊥) (λ n. (0 ≤ n) × (n < 64) × Sent n × ((k : ℕ) → 0 ≤ k → k < n → Sent k → ⊥)) →
    MatchOption found ((n : ℕ) → Sent n → ⊥) (λ n. Sent n × ((k : ℕ) → k < n → Sent k → ⊥))
first Sent None low none = λ n sent. none n (omega arith) (low n sent) sent
first Sent (Some n) low one = (one.2, λ k below. one.3 k (omega arith) below)

pub returns : goal.returns
returns g c =
    let Sent : ℕ → Type 0 = λ n. Sends (g.Self.Questions.shown c.args.self.now) n c.args.link c.args.slot in
    first Sent c.find.result (λ n sent. g.met.Self.Questions.numbered c.args.self.now n c.args.slot sent.holds)
    (first_from_Range _ _ _ c.find.result Sent (λ n. Sent n → ⊥) c.find.ensures.ran (λ n q k. search (rules, tests)) (λ n q k. search (rules, tests)))
