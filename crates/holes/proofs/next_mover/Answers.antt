-- `holes::next_mover` meets its contract: nobody had passed a relay with room, and past another the places are searched. Assumes nothing.
use Rattle.std.proofs.Common.{ℕ, get_or, ap, ◌∙◌, arith}
use Rattle.order.specs.Keys.{slot_relay}
use Rattle.row.specs.Row.{slot_room}
use Rattle.holes.proofs.Sweeps.{next_at_once}
use Rattle.holes.proofs.next_mover.Goals as goal

pub returns-then-roomy : goal.returns-then-roomy
unfolding slot_room
returns-then-roomy c =
    next_at_once c.requires.0 _ c.requires.1
    (omega (
      arith,
      c.if-roomy.true,
      ap (λ (i : ℕ). get_or c.args.survey.now.room i 0)
          (c.slot_relay-relay.ensures.0 ∙ ap (slot_relay c.args.survey.now.keys) c.from.ensures),
    ))
