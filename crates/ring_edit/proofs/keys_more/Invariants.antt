-- `ring_edit::keys_more` meets its contract. The invariant: the first keys are raised. Assumes nothing.
use Rattle.ring_edit.specs.Shift.{raised}
use Rattle.ring_edit.specs.Homes.{HomesMoved}
use Rattle.ring_edit.proofs.keys_more.Given as goal

abbrev pub invariant-loop-key : goal.invariant-loop-key
invariant-loop-key l = HomesMoved (λ _. raised l.at) l.key-index l.initial.key-items l.key-items
