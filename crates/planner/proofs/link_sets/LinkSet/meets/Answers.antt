use Rattle.std.proofs.Common.{◌≡◌, ℕ, ◌<◌, Bool, true, false, Decides, length, sym, refl, arith, rules}
use borrow.Author.Tests.{tests}
use Rattle.std.specs.Bool.{MatchBool}
use Rattle.std.specs.List.{zip, AllWithin, HoldsAt}
use Rattle.std.proofs.lemmas.Bool.{false≢true}
use Rattle.std.proofs.lemmas.Iterator.{YieldsList-from_slice, YieldsList-from_zip, cases_from_any}
use Rattle.planner.specs.declared.link_sets.LinkSet.{LinkSet}
use Rattle.planner.specs.LinkSets.{crossing, share}
use Rattle.planner.proofs.LinkBits.{Meet, meeting_link, no_common, crossing_below}
use Rattle.planner.proofs.Sharing.{share_from, share_none}
use Rattle.planner.proofs.link_sets.LinkSet.meets.Goals as goal

-- what is found in the words is told of the links
module _ (mine its : LinkSet) (four : length mine.words ≡ 4) (same : length mine.words ≡ length its.words) where
  links : (b : Bool) → MatchBool b ((w : ℕ) × (w < length (zip mine.words its.words)) × HoldsAt Meet (zip mine.words its.words) w)
      (AllWithin (λ p. Meet p → ⊥) (zip mine.words its.words) 0 (length (zip mine.words its.words))) →
      Decides b ((k : ℕ) × (crossing mine k ≡ true) × (crossing its k ≡ true)) × (b ≡ share (crossing mine) (crossing its))
  links true told =
      let some = meeting_link mine.words its.words same told.0 told.1 told.2 in (
        (λ _. some, λ _. refl),
        sym (share_from (crossing mine) (crossing its) some.0 (crossing_below mine some.0 four some.1) some.1 some.2),
      )
  links false told =
      let none : (k : ℕ) → crossing mine k ≡ true → crossing its k ≡ true → ⊥ =
      λ k a b. let low = crossing_below mine k four a in no_common mine.words its.words same told k (omega arith) a b in (
        (λ e. absurd (false≢true e), λ h. absurd (none h.0 h.1 h.2)),
        sym (share_none (crossing mine) (crossing its) none),
      )

pub returns : goal.returns
returns c =
    let mine = c.args.self.now in
    let its = c.args.other.now in
    let four : length mine.words ≡ 4 = search rules in
    let same : length mine.words ≡ length its.words = search rules in
    let told = cases_from_any c.any.new.self _ c.any.result Meet (λ p. Meet p → ⊥) c.any.ensures.ran (YieldsList-from_zip (YieldsList-from_slice mine.words (cc)) (YieldsList-from_slice its.words (cc)))
    (λ x q k. search (rules, tests)) (λ x q k. search (rules, tests)) in
    let is = links mine its four same c.any.result told in
    record { found = is.0; shared = is.1 }
