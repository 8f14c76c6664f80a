-- `roster::take_over` meets its contract: scratch holds the two blocks, and the lent tables are written where these are full tables.
-- Assumes nothing.
use mathlib.Core.Path.{refl}
use Rattle.roster.specs.Inner.{full_blocks}
use Rattle.roster.proofs.take_over.Goals as goal

pub returns-then-not-full_tables : goal.returns-then-not-full_tables
unfolding full_blocks
returns-then-not-full_tables c =
    (refl, record { full = cc (c.entries.ensures, c.entries-2.ensures, c.full_tables.ensures); relays = refl; tablets = refl })

pub returns : goal.returns
unfolding full_blocks
returns c =
    record {
      full = cc (c.entries.ensures, c.entries-2.ensures, c.full_tables.ensures);
      relays = cc (c.entries.ensures, c.fill_table.ensures);
      tablets = cc (c.entries-2.ensures, c.fill_table-2.ensures);
    }
