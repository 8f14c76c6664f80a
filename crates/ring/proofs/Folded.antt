-- Bytes mixed in one after another are a fold.
--   mixed_all_is   by `mixed`, from the hash so far
-- Assumes nothing.
use mathlib.Core.List.{List, [], ◌∷◌}
use mathlib.Core.Path.{◌≡◌, refl}
use Prim.Native.Nat.{ℕ}
use Rattle.std.specs.List.{fold}
use Rattle.ring.specs.Fnv.{mixed, mixed_all}

pub mixed_all_is : (bytes : List ℕ) (hash : ℕ) → mixed_all hash bytes ≡ fold mixed hash bytes
unfolding mixed_all
mixed_all_is [] hash = refl
mixed_all_is (byte ∷ bytes) hash = mixed_all_is bytes (mixed hash byte)
