-- The relays in ring order once one relay is put in or taken out (document 01, "The ring"): the others keep their order, and those behind it move
-- by one slot and by one place. Assumes nothing.
use Rattle.std.specs.Prelude.{cond, List, ◌≡◌, ℕ, ◌+◌, ◌-◌, ◌%◌, ◌<◌, ltb, length, get_or}
use Rattle.ring.specs.Most.{most_relays}

-- the k-th of all numbers but s
unfoldable pub skip : ℕ → ℕ → ℕ
skip s k = cond (ltb k s) k (k + 1)

-- a ring key whose place is one more where a relay is put in at place `at`, or ahead of it
unfoldable pub raised : ℕ → ℕ → ℕ
raised at x = cond (ltb (x % most_relays) at) x (x + 1)

-- one less where the relay at place `at` is taken out, and that was ahead of it
unfoldable pub lowered : ℕ → ℕ → ℕ
lowered at x = cond (ltb at (x % most_relays)) (x - 1) x

-- n keys, from n + 1 of which that at slot s is left out
pub record KeysLess (n s at : ℕ) (before after : List ℕ) : Type 0 where
  pub size : length after ≡ most_relays
  pub others : (k : ℕ) → k < n → get_or after k 0 ≡ lowered at (get_or before (skip s k) 0)

-- n + 1 keys: n, and x at slot s
pub record KeysMore (n s at x : ℕ) (before after : List ℕ) : Type 0 where
  pub size : length after ≡ most_relays
  pub others : (k : ℕ) → k < n → get_or after (skip s k) 0 ≡ raised at (get_or before k 0)
  pub one : get_or after s 0 ≡ x
