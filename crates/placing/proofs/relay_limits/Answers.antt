-- `placing::relay_limits` meets its contract. The invariant: the limits of the first i relays are loaded. Assumes nothing.
use mathlib.Core.Path.{refl}
use Rattle.tables.specs.Table.{relay_limit}
use Rattle.tables.specs.Placement.{array, relay_limits}
use Rattle.tables.proofs.Loops.{array_more}
use Rattle.placing.proofs.relay_limits.Goals as goal

pub loop-i-init : goal.loop-i-init
unfolding relay_limits array
loop-i-init c = refl

pub loop-i-preserved : goal.loop-i-preserved
unfolding relay_limits
loop-i-preserved c = array_more (relay_limit _) c.loop-i.invariant c.relay_limit.ensures
