-- `entries::shape::rise` meets its contract. The invariant: `ok` says whether the first i places are entries, and `before` is the number
-- before place i. Assumes nothing.
use mathlib.Core.Path.{◌≡◌}
use Rattle.tables.specs.Table.{number_in, beside_in}
use Rattle.tables.specs.Shape.{all, previous, entry_at}
use Rattle.entries.proofs.shape.rise.Given as goal

abbrev pub invariant-loop-i : goal.invariant-loop-i
invariant-loop-i l =
    (l.before ≡ previous (number_in l.table) l.i)
    × (l.ok ≡ all (entry_at l.top (number_in l.table) (beside_in l.table)) l.i)
