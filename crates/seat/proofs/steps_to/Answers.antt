-- `seat::steps_to` meets its contract: on the way there the walk comes round where the slot is before the one that it starts from.
-- Assumes nothing.
use native.Mathlib.Omega.{arith}
use borrow.Author.Tests.{le-leb, lt-leb}
use Rattle.slots.specs.Slots.{steps_to}
use Rattle.seat.proofs.steps_to.Goals as goal

pub returns-then-from-to : goal.returns-then-from-to
unfolding steps_to
returns-then-from-to c = rw (le-leb c.args.h c.args.k (omega arith)) (omega arith)

pub returns-else-from-to : goal.returns-else-from-to
unfolding steps_to
returns-else-from-to c = rw (lt-leb c.args.h c.args.k (omega arith)) (omega arith)
