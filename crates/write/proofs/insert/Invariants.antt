-- `write::insert` meets its contract. The invariant: the places below i and behind place n are as they were, and those from i to n stand one
-- further on. Assumes nothing.
use Prim.Native.Nat.{◌≤◌}
use Rattle.write.proofs.Shifts.{place_at, Raised}
use Rattle.write.proofs.insert.Given as goal

abbrev pub invariant-loop-i : goal.invariant-loop-i
invariant-loop-i l = (l.at ≤ l.i) × Raised (place_at l.initial.table) (place_at l.table) l.n l.i
