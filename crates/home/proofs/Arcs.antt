-- Laws of the arcs' starts, as they are marked slot by slot.
--   starts_zeros, starts_marked       where walks to the arcs may begin
--   begins_past                       a walk to an arc past a slot's may begin behind the slot
-- Assumes nothing.
use mathlib.Core.List.{List}
use mathlib.Core.Path.{◌≡◌}
use Prim.Native.Nat.{ℕ, ◌+◌, ◌*◌, ◌/◌, ◌<◌}
use native.Mathlib.Omega.{arith}
use borrow.Author.Tests.{ltb-true, ltb-false}
use lib.Dec.{ltb}
use lib.ListN.{get_or, replicate, get_or-replicate}
use Rattle.ring.proofs.Tests.{split}
use Rattle.home.specs.Home.{key_at, Begins, arcs, arc, Starts, Marked}
use Rattle.home.proofs.Walk.{begins_none, begins_later, begins_more}

-- at the first slot, to any arc
pub starts_zeros : (keys : List ℕ) (n : ℕ) → Starts keys n arcs (replicate arcs 0)
starts_zeros keys n =
    record { begins = λ b p. rw (get_or-replicate {A = ℕ} arcs b 0 0 p) (begins_none keys n (key_at (b * arc))) }

module _ {keys a s : List ℕ} {n from top k r : ℕ} (m : Marked from top k a s r)
    (b : Begins keys n (key_at (from * arc)) k) where
  pub starts_marked : Starts keys n from a → Starts keys n r s
  starts_marked o = record {
    begins = λ c p. split (ltb c from)
        (λ t. rw (m.rest c (ltb-true c from t)) (o.begins c (ltb-true c from t)))
        (λ t. rw (m.done c (ltb-false c from t) p) (begins_later b (omega (arith, ltb-false c from t))));
  }

  pub begins_past : k < n → top ≡ get_or keys k 0 / key_at arc → Begins keys n (key_at (r * arc)) (k + 1)
  begins_past h e = begins_more (begins_later b (omega (arith, m.onward))) h (omega (arith, m.past))
