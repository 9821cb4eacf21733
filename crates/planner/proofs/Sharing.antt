-- Routes that share a link.
use Rattle.std.proofs.Common.{◌≡◌, ℕ, ◌<◌, Bool, true, false, ◌&&◌, Decides, refl, ⊎_elim}
use Rattle.std.proofs.lemmas.Bool.{and_parts, and_from, cases_Bool}
use Rattle.std.proofs.lemmas.Bool.Decides.{Decides-below_or}
use Rattle.planner.specs.LinkSets.{share}
use Rattle.planner.specs.Slots.{some_below}

-- the test for some number below n
pub some_decides : (p : ℕ → Bool) (n : ℕ) → Decides (some_below p n) ((k : ℕ) × (k < n) × (p k ≡ true))
unfolding some_below
some_decides p n = Decides-below_or p (λ k. p k ≡ true) (some_below p) (λ _. (λ e. e, λ e. e)) refl (λ _. refl) n

pub share_from : (a b : ℕ → Bool) (k : ℕ) → k < 256 → a k ≡ true → b k ≡ true → share a b ≡ true
share_from a b k l in-a in_b = (some_decides (λ k. a k && b k) 256).1 (k, l, and_from (a k) (b k) in-a in_b)

pub share_gives : (a b : ℕ → Bool) → share a b ≡ true → (k : ℕ) × (k < 256) × (a k ≡ true) × (b k ≡ true)
share_gives a b e =
    let found = (some_decides (λ k. a k && b k) 256).0 e in
    let both = and_parts (a found.0) (b found.0) found.2 in
    (found.0, found.1, both.0, both.1)

pub share_none : (a b : ℕ → Bool) → ((k : ℕ) → a k ≡ true → b k ≡ true → ⊥) → share a b ≡ false
share_none a b none = ⊎_elim (λ e. let found = share_gives a b e in absurd (none found.0 found.2 found.3)) (λ e. e) (cases_Bool (share a b))
