-- `placing::relay_positions` meets its contract. The invariant: the positions of the first i relays are loaded. Assumes nothing.
use mathlib.Core.Path.{◌≡◌}
use Rattle.ring.specs.Scheme.{positions}
use Rattle.tables.specs.Placement.{relay_positions}
use Rattle.placing.proofs.relay_positions.Given as goal

abbrev pub invariant-loop-i : goal.invariant-loop-i
invariant-loop-i l = l.position ≡ relay_positions (positions l.scheme) l.relays l.i
