-- Keys of n relays beside keys of n + 1, one of which is new: slot for slot.
--   Line                                  a slot in both
--   key_place, key_raised, key_lowered    the place in a key, and how it moves
-- Assumes nothing.
use mathlib.Core.List.{List}
use mathlib.Core.Path.{◌≡◌}
use Prim.Native.Nat.{ℕ, ◌+◌, ◌*◌, ◌%◌, ◌^◌, ◌<◌}
use native.Mathlib.Omega.{arith}
use borrow.Author.Tests.{lt-ltb, le-ltb}
use lib.ListN.{get_or}
use Rattle.ring.specs.Most.{most_relays}
use Rattle.order.specs.Keys.{slot_relay}
use Rattle.ring_edit.specs.Shift.{skip, raised, lowered}
use Rattle.ring_edit.proofs.Skips.{Skip, low, high, skip_cases}

-- slot k of `keys`, which is slot skip s k of `more`: the relay there, its position among those of `keys`, and its place in both
pub record Line (position keys more : List ℕ) (n s at k : ℕ) : Type 0 where
  pub place : ℕ
  pub below : place < n
  pub relay : slot_relay keys k ≡ place
  pub moved : slot_relay more (skip s k) ≡ skip at place
  pub key : get_or keys k 0 ≡ get_or position place 0 * 2 ^ 32 + place
  pub raised : get_or more (skip s k) 0 ≡ get_or position place 0 * 2 ^ 32 + skip at place

-- the place of a key
pub key_place : (x q i : ℕ) → i < most_relays → x ≡ q * 2 ^ 32 + i → x % most_relays ≡ i
key_place x q i h e = omega arith

-- a key raised, and lowered
pub key_raised : (at x q i : ℕ) → i < most_relays → x ≡ q * 2 ^ 32 + i → raised at x ≡ q * 2 ^ 32 + skip at i
unfolding raised
key_raised at x q i h e = go (skip_cases at i)
  where
    go : Skip at i → raised at x ≡ q * 2 ^ 32 + skip at i
    go (low l f) = rw (key_place x q i h e, lt-ltb i at l) (omega arith)
    go (high l f) = rw (key_place x q i h e, le-ltb i at l) (omega arith)

pub key_lowered : (at x q i : ℕ) → skip at i < most_relays → x ≡ q * 2 ^ 32 + skip at i → lowered at x ≡ q * 2 ^ 32 + i
unfolding lowered
key_lowered at x q i h e = go (skip_cases at i)
  where
    go : Skip at i → lowered at x ≡ q * 2 ^ 32 + i
    go (low l f) = rw (key_place x q (skip at i) h e, f, le-ltb at i (omega arith)) (omega arith)
    go (high l f) = rw (key_place x q (skip at i) h e, f, lt-ltb at (i + 1) (omega arith)) (omega arith)
