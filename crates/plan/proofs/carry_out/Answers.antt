-- `plan::carry_out` meets its contract. The invariant: the first j tablets have their new relays, the c of them that moved are listed, and the
-- others are as they were. Assumes nothing.
use native.Mathlib.Omega.{arith}
use Rattle.plan.proofs.Carried.{carrying_none, carrying_moves, carrying_more, carrying_end}
use Rattle.plan.proofs.carry_out.Goals as goal

pub loop-j-init : goal.loop-j-init
loop-j-init c = carrying_none _ _ _ _

pub move_one-c-requires : goal.move_one-c-requires
move_one-c-requires c = carrying_moves c.requires c.loop-j-test.true c.loop-j.invariant c.from.ensures

pub loop-j-preserved : goal.loop-j-preserved
loop-j-preserved c =
    carrying_more c.requires c.loop-j-test.true c.loop-j.invariant c.from.ensures c.move_one-c.ensures

pub returns : goal.returns
returns c = carrying_end (omega arith) (omega arith) c.loop-j.invariant
