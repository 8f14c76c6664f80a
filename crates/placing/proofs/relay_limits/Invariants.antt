-- `placing::relay_limits` meets its contract. The invariant: the limits of the first i relays are loaded. Assumes nothing.
use mathlib.Core.Path.{◌≡◌}
use Rattle.tables.specs.Placement.{relay_limits}
use Rattle.placing.proofs.relay_limits.Given as goal

abbrev pub invariant-loop-i : goal.invariant-loop-i
invariant-loop-i l = l.limit ≡ relay_limits l.relays l.i
