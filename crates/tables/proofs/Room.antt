-- Laws of the room that is left.
--   less_here, less_other        one more is placed at a relay
--   less_open, less_keeps        who has room then had room before; who had more than one place keeps room
--   room_more, room_size, room_beyond   the room that the first j tablets leave; past the n relays there is none
-- Assumes nothing.
use mathlib.Core.List.{List}
use mathlib.Core.Logic.{⊎_elim}
use mathlib.Core.Path.{◌≡◌, ap}
use Prim.Native.Nat.{ℕ, zero, suc, ◌+◌, ◌-◌, ◌≤◌, ◌<◌}
use native.Mathlib.Decide.{dec_lt}
use native.Mathlib.Numerals.{add-one}
use native.Mathlib.Omega.{arith}
use lib.ListN.{length, get_or, set, length-set, get_or-eq_default}
use lib.Seq.{get_or-set_same, get_or-set_other, set_out}
use Rattle.ring.specs.Most.{most_relays}
use Rattle.ring.specs.Scheme.{Positions}
use Rattle.tables.specs.Table.{relay_limit}
use Rattle.tables.specs.Placement.{relay_limits, room_less, room_after, relay_for}
use Rattle.tables.proofs.Loops.{eq_or_ne, length_array, array_beyond}

module _ (room : List ℕ) (i : ℕ) where
  pub less_other : (k : ℕ) → (k ≡ i → ⊥) → get_or (room_less room i) k 0 ≡ get_or room k 0
  unfolding room_less
  less_other k d = get_or-set_other room i k (get_or room i 0 - 1) 0 d

  pub less_here : get_or (room_less room i) i 0 ≡ get_or room i 0 - 1
  unfolding room_less
  less_here = go (dec_lt i (length room))
    where
      go : Dec (i < length room) → get_or (set room i (get_or room i 0 - 1)) i 0 ≡ get_or room i 0 - 1
      go (yes h) = get_or-set_same room i (get_or room i 0 - 1) 0 h
      go (no h) =
          let z : get_or room i 0 ≡ 0 = get_or-eq_default room 0 (omega arith) in
          rw (set_out room i (get_or room i 0 - 1) (omega arith)) (omega arith)

  same : (k : ℕ) → k ≡ i → (get_or room k 0 ≡ get_or room i 0) × (get_or (room_less room i) k 0 ≡ get_or (room_less room i) i 0)
  same k e = (ap (λ (x : ℕ). get_or room x 0) e, ap (λ (x : ℕ). get_or (room_less room i) x 0) e)

  pub less_open : (k : ℕ) → 0 < get_or (room_less room i) k 0 → 0 < get_or room k 0
  less_open k z =
      ⊎_elim (λ (e : k ≡ i). omega (arith, same k e, less_here)) (λ d. omega (arith, less_other k d)) (eq_or_ne k i)

  pub less_keeps : (get_or room i 0 ≡ 1 → ⊥) → (k : ℕ) → 0 < get_or room k 0 → 0 < get_or (room_less room i) k 0
  less_keeps d k z =
      ⊎_elim (λ (e : k ≡ i). omega (arith, same k e, less_here)) (λ q. omega (arith, less_other k q)) (eq_or_ne k i)

  less_empty : (k : ℕ) → get_or room k 0 ≡ 0 → get_or (room_less room i) k 0 ≡ 0
  less_empty k z =
      elim (dec_lt 0 (get_or (room_less room i) k 0)) [ yes d ↦ absurd (omega (arith, less_open k d)) | no d ↦ omega arith ]

module _ (p : Positions) (rs ts : List ℕ) (n : ℕ) where
  pub room_more : (j : ℕ) {room : List ℕ} {i : ℕ} → room ≡ room_after p rs ts n j → i ≡ relay_for p rs ts n j
      → room_less room i ≡ room_after p rs ts n (j + 1)
  unfolding room_after relay_for
  room_more j a b = rw (add-one, a, b)

  pub room_size : (j : ℕ) → length (room_after p rs ts n j) ≡ most_relays
  unfolding room_after relay_limits room_less
  room_size zero = length_array (relay_limit rs) n
  room_size (suc j) = simp length-set (room_size j)

  pub room_beyond : (j k : ℕ) → n ≤ k → get_or (room_after p rs ts n j) k 0 ≡ 0
  unfolding room_after relay_limits relay_for
  room_beyond zero k h = array_beyond (relay_limit rs) n k h
  room_beyond (suc j) k h = less_empty (room_after p rs ts n j) (relay_for p rs ts n j) k (room_beyond j k h)
