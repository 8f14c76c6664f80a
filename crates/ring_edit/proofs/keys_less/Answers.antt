-- `ring_edit::keys_less` meets its contract. The invariant: the first keys are lowered. Assumes nothing.
use native.Mathlib.Omega.{arith}
use Rattle.ring_edit.proofs.Shifts.{moved_none, moved_more, moved_all, moved_down, less_keys}
use Rattle.ring_edit.proofs.keys_less.Goals as goal

pub loop-key-init : goal.loop-key-init
loop-key-init c = moved_none _ _

pub loop-key-preserved : goal.loop-key-preserved
loop-key-preserved c = moved_more _ c.loop-key.invariant c.loop-key-test.true c.lowered.ensures

pub returns : goal.returns
returns c =
    let e = c.copy_within.ensures in
    less_keys _ (omega (arith, e.len)) (moved_down _ _ e.by_index.0 e.by_index.1)
    (moved_all _ (omega arith) c.loop-key-test.false c.loop-key.invariant)
