-- `entries::shape::end` meets its contract. The invariant: `ok` says whether the first i places behind the entries are unused. Assumes
-- nothing.
use mathlib.Core.Path.{refl}
use Rattle.tables.specs.Shape.{all}
use Rattle.tables.proofs.Shaped.{unused_more}
use Rattle.entries.proofs.shape.end.Goals as goal

pub loop-i-init : goal.loop-i-init
unfolding all
loop-i-init c = refl

pub loop-i-preserved : goal.loop-i-preserved
loop-i-preserved c =
    unused_more _ _ _ _ c.loop-i.invariant c.number.ensures
    c.beside.ensures c.unused_place-fine.ensures refl
