-- What the accessors give of lent slices: the only laws here that know how many numbers a place has.
--   relay_number_word, tablet_number_word, tablet_relay_word     32-bit numbers
--   relay_beyond, tablet_beyond                                  zeros behind the last place
-- Assumes nothing.
use mathlib.Core.Bool.{true}
use mathlib.Core.Path.{◌≡◌}
use mathlib.Core.List.{List}
use Prim.Native.Nat.{ℕ, ◌+◌, ◌*◌, ◌/◌, ◌%◌, ◌^◌, ◌≤◌, ◌<◌}
use native.Mathlib.Omega.{arith}
use borrow.Author.Tests.{eqb-true}
use lib.Dec.{eqb}
use lib.ListN.{length, get_or, get_or-eq_default}
use Rattle.tables.specs.Table.{relay_places, relay_number, relay_limit, is_whole, tablet_places, tablet_number, tablet_relay, beside_in, number_in, places_of}
use Rattle.meaning.specs.Meaning.{Words}

module _ {l : List ℕ} (w : Words l) (i : ℕ) where
  pub relay_number_word : relay_number l i < 2 ^ 32
  unfolding number_in
  relay_number_word = w.fit (2 * i)

  pub tablet_number_word : tablet_number l i < 2 ^ 32
  unfolding number_in
  tablet_number_word = w.fit (2 * i)

  pub tablet_relay_word : tablet_relay l i < 2 ^ 32
  unfolding beside_in
  tablet_relay_word = w.fit (2 * i + 1)

-- of a slice with two numbers to a place and nothing over
beyond : (l : List ℕ) (i k : ℕ) → eqb (length l % 2) 0 ≡ true → length l / 2 ≤ i → 2 * i ≤ k
    → ◌≡◌ {A = ℕ} (get_or l k 0) 0
beyond l i k e h d = get_or-eq_default l 0 (omega (arith, eqb-true (length l % 2) 0 e))

module _ (l : List ℕ) (i : ℕ) where
  pub relay_beyond : is_whole l ≡ true → relay_places l ≤ i → (relay_number l i ≡ 0) × (relay_limit l i ≡ 0)
  unfolding is_whole places_of number_in beside_in
  relay_beyond e h = (beyond l i (2 * i) e h (omega arith), beyond l i (2 * i + 1) e h (omega arith))

  pub tablet_beyond : is_whole l ≡ true → tablet_places l ≤ i → (tablet_number l i ≡ 0) × (tablet_relay l i ≡ 0)
  unfolding is_whole places_of number_in beside_in
  tablet_beyond e h = (beyond l i (2 * i) e h (omega arith), beyond l i (2 * i + 1) e h (omega arith))
