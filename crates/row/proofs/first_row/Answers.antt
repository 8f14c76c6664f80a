-- `row::first_row` meets its contract. The invariant: from slot k on the row leads to the first slot with room, and so does `lead` from k.
-- Assumes nothing.
use Rattle.std.proofs.Common.{replicate, refl}
use Rattle.ring.specs.Most.{most_relays}
use Rattle.row.proofs.Leads.{row_start}
use Rattle.row.proofs.first_row.Goals as goal

pub loop-k-init : goal.loop-k-init
loop-k-init c = (row_start (replicate most_relays 0) c.requires refl c.lowest-lead.ensures, c.lowest-lead.ensures)
