-- A block's entries, written into a table one after the other.
--   block_length    how many there are
--   entries_more    one more is written
-- Assumes nothing.
use mathlib.Core.List.{List, [], ◌∷◌, ◌++◌, append_assoc}
use mathlib.Core.Path.{◌≡◌, sym, ◌∙◌}
use Prim.Native.Nat.{ℕ, suc, ◌+◌, ◌*◌, ◌<◌}
use native.Mathlib.Numerals.{add-one}
use native.Mathlib.Omega.{arith}
use lib.ListN.{length, take, set, length-set}
use lib.Seq.{take-suc-set}
use Rattle.rule.specs.Entry.{entry}
use Rattle.meaning.specs.Meaning.{places}
use Rattle.meaning.proofs.Places.{length_places}
use Rattle.write.specs.Tables.{flat}
use Rattle.write.proofs.Filled.{flat_more}
use Rattle.layout.specs.Numbers.{number_bytes, number_at}
use Rattle.layout.specs.Roster.{entry_bytes, block}

-- two numbers stored behind the first i places
two_more : (l : List ℕ) (i x v : ℕ) → 2 * i + 1 < length l → take (2 * (i + 1)) (set (set l (2 * i) x) (2 * i + 1) v)
    ≡ take (2 * i) l ++ (x ∷ v ∷ [])
two_more l i x v h =
    let e : 2 * (i + 1) ≡ suc (suc (2 * i)) = omega arith in
    rw (
      e,
      add-one,
      take-suc-set (set l (2 * i) x) (suc (2 * i)) v (omega (arith, length-set l (2 * i) x)),
      take-suc-set
          l (2 * i) x (omega arith),
    )
    (append_assoc (take (2 * i) l) (x ∷ []) (v ∷ []))

pub block_length : (b : List ℕ) (at n : ℕ) → length (block b at n) ≡ n
unfolding block
block_length b at n = length_places _ _ n

module _ (b : List ℕ) (at : ℕ) where
  pub entries_more : (l : List ℕ) (i : ℕ) {x v : ℕ} → 2 * i + 1 < length l → take (2 * i) l ≡ flat (block b at i)
      → x ≡ number_at b (at + entry_bytes * i)
      → v ≡ number_at b (at + entry_bytes * i + number_bytes) → take (2 * (i + 1)) (set (set l (2 * i) x) (2 * i + 1) v)
      ≡ flat (block b at (i + 1))
  unfolding block places
  entries_more l i {x} {v} h p q r =
      two_more l i x v h ∙ rw (add-one, p, q, r)
      (sym (flat_more (block b at i) (entry (number_at b (at + entry_bytes * i))
      (number_at b (at + entry_bytes * i + number_bytes)))))
