-- `entries::shape::entry_right` meets its contract, test by test. Assumes nothing.
use borrow.Author.Tests.{lt-ltb, le-ltb}
use Rattle.tables.specs.Shape.{entry_right}
use Rattle.entries.proofs.shape.entry_right.Goals as goal

pub returns-then-before-number : goal.returns-then-before-number
unfolding entry_right
returns-then-before-number c = rw (lt-ltb _ _ c.if-before-number.true)

pub returns-else-before-number : goal.returns-else-before-number
unfolding entry_right
returns-else-before-number c = rw (le-ltb _ _ c.if-before-number.false)
