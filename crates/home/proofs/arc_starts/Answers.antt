-- `home::arc_starts` meets its contract. The invariant: the starts of the first b arcs are right, and a walk to arc b may begin at slot k.
-- Assumes nothing.
use Prim.Native.Nat.{◌<◌}
use native.Mathlib.Omega.{arith}
use Rattle.std.proofs.lemmas.List.{get_or-take, length-take-le}
use Rattle.home.proofs.Arcs.{starts_zeros, starts_marked, begins_past}
use Rattle.home.proofs.arc_starts.Goals as goal

pub returns-then-in_turn : goal.returns-then-in_turn
returns-then-in_turn c = starts_zeros _ _

pub loop-k-preserved : goal.loop-k-preserved
loop-k-preserved c =
    let v = c.loop-k.invariant in
    let m = c.mark-b.ensures in
    let h : c.loop-k.k < c.args.n = omega (arith, length-take-le c.args.n c.args.keys.now (omega arith)) in
    (m.within, begins_past m v.1 h (rw (get_or-take _ _ _ _ h) at c.arc_of.ensures.0), starts_marked m v.1 v.2)
