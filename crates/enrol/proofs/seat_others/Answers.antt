-- `enrol::seat_others` meets its contract. The invariant: the first c of those who gave way are seated in the table and listed, and every number
-- of the table stands where it stood.
-- Assumes nothing.
use Prim.Native.Nat.{◌+◌}
use native.Mathlib.Omega.{arith}
use Rattle.enrol.proofs.Seated.{climbs_still, seating_start, seating_more, places_still, list_length, sat_at, seated_all}
use Rattle.enrol.proofs.seat_others.Goals as goal

pub loop-c-init : goal.loop-c-init
loop-c-init c = λ x. seating_start x _ _ _ _ _

pub seat_one-requires : goal.seat_one-requires
seat_one-requires c =
    let l = c.loop-c in
    let b = c.loop-c-test.true in
    let s = l.invariant 0 in
    let r = c.requires in (
      omega (arith, c.from-j.ensures, r.places (l.c + 1) (omega arith) (omega arith)),
      places_still _ _ s.size r.tablets,
      climbs_still s.numbers r.climbs,
      omega (arith, c.from-old.ensures, r.relays l.c (omega arith)),
      omega (arith, c.from-new.ensures, r.relays (l.c + 1) (omega arith)),
      omega (arith, r.list, list_length (omega arith) r.list s),
    )

pub loop-c-preserved : goal.loop-c-preserved
loop-c-preserved c =
    λ x. seating_more x _ _ _ _ _ _ (c.loop-c.invariant x)
    (omega (arith, c.requires.list, c.loop-c-test.true))
    (sat_at c.seat_one.ensures c.from-j.ensures c.from-old.ensures c.from-new.ensures)

pub returns : goal.returns
returns c = λ x. seated_all (omega arith) c.loop-c-test.false (c.loop-c.invariant x)
