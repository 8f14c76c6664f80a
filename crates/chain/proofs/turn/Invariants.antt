-- `chain::turn` meets its contract. The invariant (`Going`): as many steps from the home, the chain is that of the turn over the relays
-- passed, and the walker is who is kept last. The measure is what is left of the steps to the first slot with room.
-- Assumes nothing.
use Prim.Native.Nat.{◌-◌}
use Rattle.slots.specs.Slots.{steps_to}
use Rattle.chain.proofs.Turns.{Going}
use Rattle.chain.proofs.turn.Given as goal

abbrev pub invariant-loop-k : goal.invariant-loop-k
invariant-loop-k l = Going l.relays l.tablets l.survey l.h l.stop l.t.0 l.chain l.k

abbrev pub decreases-loop-k : goal.decreases-loop-k
decreases-loop-k l = steps_to l.survey.n l.h l.stop - l.chain.steps
