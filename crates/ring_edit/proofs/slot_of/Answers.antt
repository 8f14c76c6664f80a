-- `ring_edit::slot_of` meets its contract. The invariant: the first k slots have another relay. Assumes nothing.
use native.Mathlib.Omega.{arith}
use Rattle.ring_edit.proofs.Shifts.{unmet_none, unmet_more, unmet_end}
use Rattle.ring_edit.proofs.slot_of.Goals as goal

pub loop-k-init : goal.loop-k-init
loop-k-init c = unmet_none _ _

pub returns-then-slot_relay-at : goal.returns-then-slot_relay-at
returns-then-slot_relay-at c = (c.loop-k-test.true, omega (arith, c.slot_relay.ensures.0, c.if-slot_relay-at.true))

pub loop-k-preserved : goal.loop-k-preserved
loop-k-preserved c =
    unmet_more c.loop-k.invariant
    (λ e. c.if-slot_relay-at.false (omega (arith, c.slot_relay.ensures.0)))

pub returns : goal.returns
returns c = absurd (unmet_end c.loop-k-test.false c.loop-k.invariant c.requires.1)
