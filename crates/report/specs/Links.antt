-- Lists of the links that routes cross.
use Rattle.std.specs.Prelude.{◌≡◌, ℕ, ◌<◌, List, length, slice_index}

-- the list has each number that P holds of, once and in ascending order, and no other
pub record Ascending (P : ℕ → Type 0) (ks : List ℕ) : Type 0 where
  pub rises : (i j : ℕ) → i < j → j < length ks → slice_index ks i < slice_index ks j
  pub only : (i : ℕ) → i < length ks → P (slice_index ks i)
  pub all : (k : ℕ) → P k → (i : ℕ) × (i < length ks) × (slice_index ks i ≡ k)
