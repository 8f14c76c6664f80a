-- `entries::shape::rise` meets its contract. The invariant: `ok` says whether the first i places are entries, and `before` is the number
-- before place i. Assumes nothing.
use mathlib.Core.Path.{refl}
use Rattle.tables.specs.Shape.{all, previous}
use Rattle.tables.proofs.Shaped.{previous_more, entry_more}
use Rattle.entries.proofs.shape.rise.Goals as goal

pub loop-i-init : goal.loop-i-init
unfolding previous all
loop-i-init c = (refl, refl)

pub loop-i-preserved : goal.loop-i-preserved
loop-i-preserved c =
    let v = c.loop-i.invariant in
    let x = c.number-number.ensures in (
      previous_more _ _ x,
      entry_more _ _ _ _ v.1 v.0 x c.beside.ensures
          c.entry_right-fine.ensures refl,
    )
