-- `layout::entries` meets its contract. The invariant: the first i places of the table are the first i entries of the block. Assumes nothing.
use mathlib.Core.Path.{refl}
use native.Mathlib.Omega.{arith}
use Rattle.meaning.specs.Meaning.{places}
use Rattle.write.specs.Tables.{flat}
use Rattle.layout.specs.Roster.{block}
use Rattle.layout.proofs.Rows.{entries_more}
use Rattle.layout.proofs.entries.Goals as goal

pub loop-i-init : goal.loop-i-init
unfolding flat block places
loop-i-init c = refl

pub loop-i-preserved : goal.loop-i-preserved
loop-i-preserved c =
    entries_more _ _ c.loop-i.table c.loop-i.i (omega arith) c.loop-i.invariant c.number_at.ensures
    c.number_at-in-loop-i.ensures
