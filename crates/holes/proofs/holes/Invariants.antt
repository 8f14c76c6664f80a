-- `holes::holes` meets its contract. The loop's invariant (`Swept`): the places noted are the first of those who move, and place j is the next
-- to move. Each relay that was left has its last tablet before that of the next, so no more move than there are relays. The measure is what is
-- left of the tablets. Assumes nothing.
use Rattle.std.proofs.Common.{◌-◌}
use Rattle.holes.proofs.Sweeps.{Swept}
use Rattle.holes.proofs.holes.Given as goal

abbrev pub invariant-loop-j : goal.invariant-loop-j
invariant-loop-j l = Swept l.survey l.at l.places l.count l.j

abbrev pub decreases-loop-j : goal.decreases-loop-j
decreases-loop-j l = l.survey.m - l.j
