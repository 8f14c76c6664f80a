-- `ring_edit::keys_more` meets its contract. The invariant: the first keys are raised. Assumes nothing.
use Prim.Native.Nat.{◌<◌}
use native.Mathlib.Omega.{arith}
use Rattle.std.proofs.lemmas.List.{get_or-take, length-take-le}
use Rattle.ring_edit.proofs.Shifts.{moved_none, moved_more, moved_all, moved_up, more_keys}
use Rattle.ring_edit.proofs.keys_more.Goals as goal

pub loop-key-init : goal.loop-key-init
loop-key-init c = moved_none _ _

pub raised-requires : goal.raised-requires
raised-requires c =
    let i = c.loop-key.key-index in
    let h : i < c.args.n = omega (arith, length-take-le c.args.n c.args.keys.now (omega arith)) in
    rw (c.loop-key.invariant.rest i (omega arith), get_or-take c.args.n c.args.keys.now i 0 h) (c.requires.2 i h)

pub loop-key-preserved : goal.loop-key-preserved
loop-key-preserved c = moved_more _ c.loop-key.invariant c.loop-key-test.true c.raised.ensures

pub returns : goal.returns
returns c =
    let e = c.copy_within.ensures in
    let o = moved_all _ (omega arith) c.loop-key-test.false c.loop-key.invariant in
    more_keys _ (omega (arith, e.len, o.size)) (omega arith) o (moved_up _ _ _ e.by_index.0 e.by_index.1)
