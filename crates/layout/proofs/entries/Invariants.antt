-- `layout::entries` meets its contract. The invariant: the first i places of the table are the first i entries of the block. Assumes nothing.
use mathlib.Core.Path.{◌≡◌}
use Prim.Native.Nat.{◌*◌}
use lib.ListN.{take}
use Rattle.write.specs.Tables.{flat}
use Rattle.layout.specs.Roster.{block}
use Rattle.layout.proofs.entries.Given as goal

abbrev pub invariant-loop-i : goal.invariant-loop-i
invariant-loop-i l =
    take (2 * l.i) l.table ≡ flat (block l.bytes l.at l.i)
