-- `entries::shape::shape` meets its contract: the definition's tests, in its order. Assumes nothing.
use borrow.Author.Tests.{lt-leb, le-leb}
use native.Mathlib.Omega.{arith}
use Prim.Native.Nat.{◌≤◌}
use Rattle.tables.specs.Table.{places_of}
use Rattle.tables.specs.Shape.{shape}
use Rattle.entries.proofs.shape.shape.Goals as goal

pub returns-then-n-places : goal.returns-then-n-places
unfolding shape
returns-then-n-places c =
    let h : c.args.n ≤ places_of c.args.table.now = omega (arith, c.places.ensures, c.if-n-places.true) in
    rw (le-leb _ _ h, ← c.rise.ensures, ← c.end.ensures)

pub returns-else-n-places : goal.returns-else-n-places
unfolding shape
returns-else-n-places c =
    rw (← c.places.ensures, lt-leb _ _ c.if-n-places.false)
