-- What loops rely on of a table's numbers (document 01, "The lent tables"), place by place. Assumes nothing.
use Rattle.std.specs.Prelude.{ℕ, ◌^◌, ◌<◌}

-- the numbers of the first n places are 32-bit numbers from 1 that rise
pub record Ascending (number : ℕ → ℕ) (n : ℕ) : Type 0 where
  pub up : (i l : ℕ) → i < l → l < n → number i < number l
  pub numbered : (i : ℕ) → i < n → 0 < number i
  pub small : (i : ℕ) → i < n → number i < 2 ^ 32
