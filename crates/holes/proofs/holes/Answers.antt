-- `holes::holes` meets its contract. The loop's invariant (`Swept`): the places noted are the first of those who move, and place j is the next
-- to move. Each relay that was left has its last tablet before that of the next, so no more move than there are relays. The measure is what is
-- left of the tablets. Assumes nothing.
use Rattle.std.proofs.Common.{refl, arith}
use Rattle.holes.proofs.Sweeps.{swept_few, sweep_start, sweep_on, sweep_end}
use Rattle.holes.proofs.holes.Goals as goal

pub loop-j-init : goal.loop-j-init
loop-j-init c = sweep_start _ _ c.requires.0 c.requires.1 refl c.next_mover-j.ensures

pub offset_bounds-places-count : goal.offset_bounds-places-count
offset_bounds-places-count c = omega (arith, swept_few _ _ c.loop-j.invariant)

pub bounds-places-count : goal.bounds-places-count
bounds-places-count c = omega (arith, swept_few _ _ c.loop-j.invariant)

pub overflow_add-count : goal.overflow_add-count
overflow_add-count c = omega (arith, swept_few _ _ c.loop-j.invariant)

pub loop-j-preserved : goal.loop-j-preserved
loop-j-preserved c =
    sweep_on _ _ c.requires.0 c.loop-j.invariant
    c.loop-j-test.true c.next_mover-j-in-loop-j.ensures

pub returns : goal.returns
returns c =
    sweep_end _ _ c.requires.0 c.loop-j.invariant (omega (arith, c.loop-j-test.false))
