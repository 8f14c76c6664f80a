-- The front of an array.
--   scratch_size    how long it is
-- Assumes nothing.
use mathlib.Core.Path.{◌≡◌}
use Prim.Native.Nat.{ℕ, ◌≤◌}
use native.Mathlib.Omega.{arith}
use lib.ListN.{length, take, replicate, length-replicate}
use lib.Seq.{length-take-le}

pub scratch_size : (most x k : ℕ) → k ≤ most → length (take k (replicate most x)) ≡ k
scratch_size most x k h = length-take-le k (replicate most x) (omega (arith, length-replicate {A = ℕ} most x))
