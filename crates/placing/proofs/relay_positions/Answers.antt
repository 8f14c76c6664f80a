-- `placing::relay_positions` meets its contract. The invariant: the positions of the first i relays are loaded. Assumes nothing.
use mathlib.Core.Path.{refl, ap, ◌∙◌}
use Rattle.ring.specs.Scheme.{positions}
use Rattle.tables.specs.Table.{relay_number}
use Rattle.tables.specs.Placement.{array, relay_positions}
use Rattle.tables.proofs.Loops.{array_more}
use Rattle.placing.proofs.relay_positions.Goals as goal

pub loop-i-init : goal.loop-i-init
unfolding relay_positions array
loop-i-init c = refl

pub loop-i-preserved : goal.loop-i-preserved
unfolding relay_positions
loop-i-preserved c =
    array_more (λ k. (positions _).relay_at (relay_number _ k)) c.loop-i.invariant
    (c.relay_at-p.ensures ∙ ap (positions _).relay_at c.relay_number.ensures)
