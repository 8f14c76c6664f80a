-- Positions are 32-bit numbers, under every scheme.
--   position_small    of a 32-bit number
-- Assumes nothing.
use Rattle.std.proofs.Common.{ℕ, ◌*◌, ◌%◌, ◌^◌, ◌<◌, eqb, List, [], ◌∷◌, arith}
use lib.Bits.{bit_xor}
use Rattle.ring.specs.Fnv.{mixed, mixed_all, fnv, four_bytes}
use Rattle.ring.specs.Scheme.{position, positions, tablet_tag}
use Rattle.ring.proofs.Tests.{split}

rest_less : (x : ℕ) → x % 2 ^ 32 < 2 ^ 32
rest_less x = omega arith

mixed_less : (hash byte : ℕ) → mixed hash byte < 2 ^ 32
unfolding mixed
mixed_less hash byte = rest_less (bit_xor hash byte * 16777619)

mixed_all_less : (hash : ℕ) (bytes : List ℕ) → hash < 2 ^ 32 → mixed_all hash bytes < 2 ^ 32
unfolding mixed_all
mixed_all_less hash [] h = h
mixed_all_less hash (byte ∷ bytes) h = mixed_all_less (mixed hash byte) bytes (mixed_less hash byte)

fnv_less : (bytes : List ℕ) → fnv bytes < 2 ^ 32
unfolding fnv
fnv_less bytes = mixed_all_less 2166136261 bytes (omega arith)

position_less : (scheme tag n : ℕ) → n < 2 ^ 32 → position scheme tag n < 2 ^ 32
unfolding position
position_less scheme tag n h = split (eqb scheme 0) (λ s. rw s h) (λ s. rw s (fnv_less (tag ∷ four_bytes n)))

pub position_small : (scheme t : ℕ) → t < 2 ^ 32 → (positions scheme).tablet_at t < 2 ^ 32
unfolding positions
position_small scheme t h = position_less scheme tablet_tag t h
