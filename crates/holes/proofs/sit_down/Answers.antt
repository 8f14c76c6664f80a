-- `holes::sit_down` meets its contract. The loop's invariant (`Sitting`): the first c sit down and are listed, the relay that the last of them
-- left is the next one's, and those to come sit where they sat. Assumes nothing.
use Rattle.std.proofs.Common.{arith}
use Rattle.holes.proofs.Seated.{sit_start, sit_climbs, sit_there, sit_long, sit_on}
use Rattle.holes.proofs.sit_down.Goals as goal

pub loop-c-init : goal.loop-c-init
loop-c-init c = sit_start _ _ _ _ _

pub tablet_number-t-requires : goal.tablet_number-t-requires
tablet_number-t-requires c =
    omega (arith, c.from-j.ensures, c.requires.below _ c.loop-c-test.true, sit_there _ _ _ _ _ c.requires c.loop-c.invariant)

pub tablet_relay-old-requires : goal.tablet_relay-old-requires
tablet_relay-old-requires c =
    omega (arith, c.from-j.ensures, c.requires.below _ c.loop-c-test.true, sit_there _ _ _ _ _ c.requires c.loop-c.invariant)

pub list_move-requires : goal.list_move-requires
list_move-requires c =
    omega (arith, c.loop-c-test.true, c.requires.long, sit_long _ _ _ _ _ c.requires c.loop-c.invariant)

pub change-requires : goal.change-requires
change-requires c = (
  omega (arith, c.from-j.ensures, c.requires.below _ c.loop-c-test.true),
  sit_there _ _ _ _ _ c.requires c.loop-c.invariant,
  sit_climbs _ _ _ _ _ c.requires c.loop-c.invariant,
)

pub loop-c-preserved : goal.loop-c-preserved
loop-c-preserved c =
    sit_on _ _ _ _ _ c.requires c.loop-c.invariant c.loop-c-test.true c.from-j.ensures c.tablet_number-t.ensures
    c.tablet_relay-old.ensures c.list_move.ensures c.change.ensures
