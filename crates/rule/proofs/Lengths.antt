-- No call makes more moves than there are tablets.
--   moves_length    the moves are at most as many as the tablets afterwards
-- Assumes nothing.
use mathlib.Core.Bool.{not, ◌&&◌}
use mathlib.Core.List.{List, [], ◌∷◌, ◌++◌}
use mathlib.Core.Option.{Option, none, some}
use mathlib.Core.Path.{◌≡◌, refl}
use Prim.Native.Nat.{ℕ, suc, ◌+◌, ◌≤◌}
use native.Mathlib.Omega.{arith}
use lib.Dec.{eqb}
use lib.ListN.{length, length-append}
use Rattle.ring.specs.Scheme.{Positions}
use Rattle.ring.proofs.Tests.{split}
use Rattle.rule.specs.declared.Call.{Call}
use Rattle.rule.specs.Entry.{Entry, entry, numbers, has, beside_of}
use Rattle.rule.specs.Rule.{Ring, seat, seat_all, placement}
use Rattle.rule.specs.Calls.{edited, or_nobody, after, moved, moves}
use Rattle.rule.proofs.Right.{length_numbers}

moved_length : (old es : List Entry) → length (moved old es) ≤ length es
unfolding moved
moved_length old [] = omega arith
moved_length old (e ∷ es) =
    split (has old e.number && not (eqb (beside_of old e.number) e.beside))
    (λ s. rw (s, moved) (omega (arith, moved_length old es)))
    (λ s. rw (s, moved) (omega (arith, moved_length old es)))

seated_length : (p : Positions) (rs seated : List Entry) (ts : List ℕ)
    → length (or_nobody (seat_all p rs seated ts)) ≤ length seated + length ts
unfolding seat_all or_nobody
seated_length p rs seated [] = omega arith
seated_length p rs seated (t ∷ ts) = at_seat (seat p rs seated t) refl (λ r. seated_length p rs (with r) ts)
  where
    with : Entry → List Entry
    with r = seated ++ (entry t r.number ∷ [])

    at_seat : (r : Option Entry) → seat p rs seated t ≡ r
        → ((x : Entry) → length (or_nobody (seat_all p rs (with x) ts)) ≤ length (with x) + length ts)
        → length (or_nobody (seat_all p rs seated (t ∷ ts))) ≤ length seated + suc (length ts)
    at_seat none e f = rw (e, seat_all) (omega arith)
    at_seat (some r) e f = rw (e, seat_all) (omega (arith, f r, length-append seated (entry t r.number ∷ [])))

pub moves_length : (p : Positions) (g : Ring) (c : Call) → length (moves p g c) ≤ length (edited g c).tablets
unfolding moves after placement
moves_length p g c =
    omega (
      arith,
      moved_length g.tablets (after p g c).tablets,
      seated_length p (edited g c).relays []
          (numbers (edited g c).tablets),
      length_numbers (edited g c).tablets,
    )
