-- `NewRelay::homes_more` of `ring_edit` meets its contract. The invariant: the first j homes have moved. Assumes nothing.
use native.Mathlib.Omega.{arith}
use Rattle.ring_edit.proofs.Shifts.{moved_none, moved_more, moved_all}
use Rattle.ring_edit.proofs.NewRelay.homes_more.Goals as goal

pub loop-j-init : goal.loop-j-init
loop-j-init c = moved_none _ _

pub loop-j-preserved : goal.loop-j-preserved
loop-j-preserved c = moved_more _ c.loop-j.invariant c.loop-j-test.true c.home_more.ensures

pub returns : goal.returns
returns c = moved_all _ (omega (arith, c.requires.few)) c.loop-j-test.false c.loop-j.invariant
