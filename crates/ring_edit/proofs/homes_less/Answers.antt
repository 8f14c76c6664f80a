-- `ring_edit::homes_less` meets its contract. The invariant: the first homes have moved. Assumes nothing.
use native.Mathlib.Omega.{arith}
use Rattle.ring_edit.proofs.Shifts.{moved_none, moved_more, moved_all}
use Rattle.ring_edit.proofs.homes_less.Goals as goal

pub loop-home-init : goal.loop-home-init
loop-home-init c = moved_none _ _

pub loop-home-preserved : goal.loop-home-preserved
loop-home-preserved c = moved_more _ c.loop-home.invariant c.loop-home-test.true c.home_less.ensures

pub returns : goal.returns
returns c = moved_all _ (omega arith) c.loop-home-test.false c.loop-home.invariant
