-- What a loop over the numbers from 0 on has filled so far: a set that has those of f below n.
use Rattle.std.proofs.Common.{◌≡◌, ℕ, ◌≤◌, Bool, false, ◌&&◌, ltb, sym, ap, ◌∙◌, ⊎_elim}
use Rattle.std.proofs.lemmas.Bool.{lt-ltb, le-ltb, cases_lt}

abbrev pub Swept : (ℕ → Bool) → (ℕ → Bool) → ℕ → Type 0
Swept m f n = (k : ℕ) → m k ≡ (ltb k n && f k)

-- from n on f has none
pub swept_all : (m f : ℕ → Bool) (n : ℕ) → Swept m f n → ((k : ℕ) → n ≤ k → f k ≡ false) → (k : ℕ) → m k ≡ f k
swept_all m f n so past k =
    ⊎_elim
    (λ l. so k ∙ ap (λ b. b && f k) (lt-ltb k n l))
    (λ l. so k ∙ ap (λ b. b && f k) (le-ltb k n l) ∙ sym (past k l))
    (cases_lt k n)
