-- All numbers but one.
--   skip_cases                          below it, and past it
--   skip_off, skip_one, skip_up         it is not there; each number once; by rising number
--   skip_below, skipped                 the n + 1 numbers below n + 1 are that one and n others
-- Assumes nothing.
use mathlib.Core.Logic.{◌⊎◌, inl, inr}
use mathlib.Core.Path.{◌≡◌}
use Prim.Native.Nat.{ℕ, ◌+◌, ◌-◌, ◌≤◌, ◌<◌}
use native.Mathlib.Decide.{dec_lt}
use native.Mathlib.Omega.{arith}
use borrow.Author.Tests.{lt-ltb, le-ltb}
use Rattle.tables.proofs.Loops.{eq_or_ne}
use Rattle.ring_edit.specs.Shift.{skip}

pub data Skip (s k : ℕ) : Type 0 where
  low : k < s → skip s k ≡ k → Skip s k
  high : s ≤ k → skip s k ≡ k + 1 → Skip s k

pub skip_low : (s k : ℕ) → k < s → skip s k ≡ k
unfolding skip
skip_low s k h = rw (lt-ltb k s h)

pub skip_high : (s k : ℕ) → s ≤ k → skip s k ≡ k + 1
unfolding skip
skip_high s k h = rw (le-ltb k s h)

pub skip_cases : (s k : ℕ) → Skip s k
skip_cases s k =
    elim (dec_lt k s) [ yes h ↦ low h (skip_low s k h) | no h ↦ let l : s ≤ k = omega arith in high l (skip_high s k l) ]

pub skip_off : (s k : ℕ) → skip s k ≡ s → ⊥
skip_off s k e = go (skip_cases s k)
  where
    go : Skip s k → ⊥
    go (low h f) = omega arith
    go (high h f) = omega arith

pub skip_one : (s k l : ℕ) → skip s k ≡ skip s l → k ≡ l
skip_one s k l e = go (skip_cases s k) (skip_cases s l)
  where
    go : Skip s k → Skip s l → k ≡ l
    go (low h f) (low i g) = omega arith
    go (low h f) (high i g) = omega arith
    go (high h f) (low i g) = omega arith
    go (high h f) (high i g) = omega arith

pub skip_up : (s k l : ℕ) → k < l → skip s k < skip s l
skip_up s k l d = go (skip_cases s k) (skip_cases s l)
  where
    go : Skip s k → Skip s l → skip s k < skip s l
    go (low h f) (low i g) = omega arith
    go (low h f) (high i g) = omega arith
    go (high h f) (low i g) = omega arith
    go (high h f) (high i g) = omega arith

pub skip_below : (s k n : ℕ) → k < n → skip s k < n + 1
skip_below s k n d = go (skip_cases s k)
  where
    go : Skip s k → skip s k < n + 1
    go (low h f) = omega arith
    go (high h f) = omega arith

-- a number below n + 1 is s, or one of the n others
pub data Skipped (s n t : ℕ) : Type 0 where
  at : t ≡ s → Skipped s n t
  off : (k : ℕ) → k < n → t ≡ skip s k → Skipped s n t

pub skipped : (s n t : ℕ) → s < n + 1 → t < n + 1 → Skipped s n t
skipped s n t h l = go (eq_or_ne t s) (dec_lt t s)
  where
    go : (t ≡ s) ⊎ (t ≡ s → ⊥) → Dec (t < s) → Skipped s n t
    go (inl e) d = at e
    go (inr e) (yes d) = off t (omega arith) (omega (arith, skip_low s t d))
    go (inr e) (no d) =
        let b : s ≤ t - 1 = omega arith in
        off (t - 1) (omega arith) (omega (arith, skip_high s (t - 1) b))
