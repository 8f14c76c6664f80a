-- `entries::shape::end` meets its contract. The invariant: `ok` says whether the first i places behind the entries are unused. Assumes
-- nothing.
use mathlib.Core.Path.{◌≡◌}
use Rattle.tables.specs.Table.{number_in, beside_in}
use Rattle.tables.specs.Shape.{all, unused_at}
use Rattle.entries.proofs.shape.end.Given as goal

abbrev pub invariant-loop-i : goal.invariant-loop-i
invariant-loop-i l = l.ok ≡ all (unused_at (number_in l.table) (beside_in l.table) l.n) l.i
