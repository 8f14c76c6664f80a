-- `holes::fill` meets its contract: nobody of the chain is the tablet that leaves, so it is the same whether it leaves first or last.
-- Assumes nothing.
use Rattle.holes.proofs.Seated.{filled_climbs, filled_there, filled_from}
use Rattle.holes.proofs.fill.Goals as goal

pub delete-requires : goal.delete-requires
delete-requires c = (
  c.requires.1,
  filled_there c.requires.0 c.requires.1 c.requires.2 _
      c.sit_down.ensures.0,
  filled_climbs c.requires.0 c.requires.1 c.requires.2 _
      c.sit_down.ensures.0,
)

pub returns : goal.returns
returns c =
    filled_from c.requires.0 c.requires.1 c.requires.2 _ c.sit_down.ensures.0
    c.delete.ensures c.sit_down.ensures.1
    c.tablet_relay-r.ensures
