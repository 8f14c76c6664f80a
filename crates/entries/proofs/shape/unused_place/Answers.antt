-- `entries::shape::unused_place` meets its contract, test by test. Assumes nothing.
use borrow.Author.Tests.{eq-eqb, ne_eqb}
use Rattle.tables.specs.Shape.{unused}
use Rattle.entries.proofs.shape.unused_place.Goals as goal

pub returns-then-number-eq0 : goal.returns-then-number-eq0
unfolding unused
returns-then-number-eq0 c = rw (eq-eqb _ _ c.if-number-eq0.true)

pub returns-else-number-eq0 : goal.returns-else-number-eq0
unfolding unused
returns-else-number-eq0 c = rw (ne_eqb _ _ c.if-number-eq0.false)
