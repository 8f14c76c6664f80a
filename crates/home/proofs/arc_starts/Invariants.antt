-- `home::arc_starts` meets its contract. The invariant: the starts of the first b arcs are right, and a walk to arc b may begin at slot k.
-- Assumes nothing.
use Prim.Native.Nat.{◌*◌, ◌≤◌}
use Rattle.home.specs.Home.{key_at, Begins, arcs, arc, Starts}
use Rattle.home.proofs.arc_starts.Given as goal

abbrev pub invariant-loop-k : goal.invariant-loop-k
invariant-loop-k l = (l.b ≤ arcs) × Begins l.keys l.n (key_at (l.b * arc)) l.k × Starts l.keys l.n l.b l.start
