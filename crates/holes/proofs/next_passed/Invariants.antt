-- `holes::next_passed` meets its contract. The loop's invariant (`Seeking`): nobody behind place i and before place j had passed the hole.
-- Assumes nothing.
use Rattle.holes.proofs.Sweeps.{Seeking}
use Rattle.holes.proofs.next_passed.Given as goal

abbrev pub invariant-loop-j : goal.invariant-loop-j
invariant-loop-j l = Seeking l.survey l.i l.j
