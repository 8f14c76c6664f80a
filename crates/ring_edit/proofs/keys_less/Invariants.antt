-- `ring_edit::keys_less` meets its contract. The invariant: the first keys are lowered. Assumes nothing.
use Rattle.ring_edit.specs.Shift.{lowered}
use Rattle.ring_edit.specs.Homes.{HomesMoved}
use Rattle.ring_edit.proofs.keys_less.Given as goal

abbrev pub invariant-loop-key : goal.invariant-loop-key
invariant-loop-key l = HomesMoved (λ _. lowered l.at) l.key-index l.initial.key-items l.key-items
