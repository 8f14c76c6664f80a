-- `plan::move_one` meets its contract: the test compares the two relays, and where they differ the list has a place for the move. Assumes nothing.
use mathlib.Core.Path.{sym, ◌∙◌}
use borrow.Author.Tests.{eqb-false}
use Rattle.plan.proofs.Carried.{move_room}
use Rattle.plan.proofs.move_one.Goals as goal

pub list_move-requires : goal.list_move-requires
list_move-requires c =
    move_room c.tablet_relay-old.ensures c.relay_number-new.ensures c.requires
    (eqb-false _ _ (sym c.eq.ensures ∙ c.if-eq.false))
