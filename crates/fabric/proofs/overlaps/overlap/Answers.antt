use borrow.Author.Tests.{tests}
use Rattle.std.proofs.Common.{◌≡◌, ℕ, get_or, ◌<◌, length, Bool, true, false, Decides, refl, sym, subst, rules, arith}
use Rattle.std.proofs.lemmas.Bool.{true≢false}
use Rattle.std.proofs.lemmas.Iterator.{YieldsList-from_range, cases_from_any}
use Rattle.std.proofs.lemmas.List.FromFn.{length-range_with_len, get_or-range_with_len}
use Rattle.std.specs.Bool.{MatchBool}
use Rattle.std.specs.List.{AllWithin, HoldsAt, range_with_len}
use Rattle.fabric.specs.Overlaps.{Shared}
use Rattle.fabric.proofs.overlaps.overlap.Goals as goal

-- all numbers of which P may hold were asked
asked : (P : ℕ → Type 0) (n : ℕ) (r : Bool) → ((k : ℕ) → P k → k < n) → MatchBool r ((i : ℕ) × (i < length (range_with_len 0 n)) × HoldsAt P (range_with_len 0 n) i) (AllWithin (λ k. P k → ⊥) (range_with_len 0 n) 0 (length (range_with_len 0 n))) → Decides r ((k : ℕ) × P k)
asked P n true below some = (λ _. (_, some.2 0), λ _. refl)
asked P n false below none = (
  λ e. absurd (true≢false (sym e)),
  λ (k, p).
      let h : k < n = below k p in
      let there : k ≡ get_or (range_with_len 0 n) k 0 = omega (arith, get_or-range_with_len 0 n k 0 h) in
      absurd (none k 0 (omega arith) (omega (arith, length-range_with_len 0 n)) (subst P there p)),
)

-- a shared link is one of the fabric's, and all of those are asked
pub returns : goal.returns
returns g c =
    let meaning = g.F.Fabric.meaning c.args.fabric.now in
    let keeps = g.met.F.Fabric.keeps c.args.fabric.now in
    let P : ℕ → Type 0 = Shared meaning c.args.one c.args.other in
    asked P c.links.result c.any.result
    (λ k both. omega (arith, keeps.crosses_below c.args.one k both.0))
    (cases_from_any _ _ _ P (λ k. P k → ⊥) c.any.ensures.ran (YieldsList-from_range 0 c.links.result c.links.result refl (omega arith)) (λ x q k. search (rules, tests)) (λ x q k. search (rules, tests)))
