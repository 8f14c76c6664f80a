-- `ring_edit::slot_of` meets its contract. The invariant: the first k slots have another relay. Assumes nothing.
use Rattle.ring_edit.proofs.Shifts.{Unmet}
use Rattle.ring_edit.proofs.slot_of.Given as goal

abbrev pub invariant-loop-k : goal.invariant-loop-k
invariant-loop-k l = Unmet l.keys l.at l.k
