-- `row::take` meets its contract: one place less at slot k's relay, and the row stays, or leads on past k where the relay is full.
-- Assumes nothing.
use Rattle.order.specs.Keys.{slot_relay}
use Rattle.std.proofs.Common.{◌≡◌, ℕ, ◌-◌, get_or, set, ap, arith, get_or-set_same}
use Rattle.tables.specs.Placement.{room_less}
use Rattle.row.specs.Row.{slot_room}
use Rattle.row.proofs.Shut.{row_keeps, row_shut}
use Rattle.row.proofs.take.Goals as goal
use Rattle.row.proofs.take.Goals.{After-slot_relay-i}

-- the room there was at slot k, and the room that is left
had : (c : After-slot_relay-i) → get_or c.args.room.now c.slot_relay-i.result 0
    ≡ slot_room c.args.keys.now c.args.room.now c.args.k
unfolding slot_room
had c = ap (λ (i : ℕ). get_or c.args.room.now i 0) c.slot_relay-i.ensures.0

less : (c : After-slot_relay-i) → (let room = c.args.room.now in let i = c.slot_relay-i.result in set room
    i (get_or room i 0 - 1) ≡ room_less room (slot_relay c.args.keys.now c.args.k))
unfolding room_less
less c =
    ap (λ (i : ℕ). set c.args.room.now i (get_or c.args.room.now i 0 - 1))
    c.slot_relay-i.ensures.0

pub overflow_sub-room : goal.overflow_sub-room
overflow_sub-room c = omega (arith, had (goal.at.overflow_sub-room c).After-slot_relay-i, c.requires.opens)

-- what is left is read where it was written
left : (c : After-slot_relay-i) → (let room = c.args.room.now in let i = c.slot_relay-i.result in get_or
    (set room i (get_or room i 0 - 1)) i 0 ≡ get_or room i 0 - 1)
left c = get_or-set_same c.args.room.now c.slot_relay-i.result _ 0 (omega arith)

pub returns-then-full : goal.returns-then-full
returns-then-full c =
    let s = (goal.at.returns-then-full c).After-slot_relay-i in (
      less s,
      row_shut c.requires (less s) (omega (arith, had s, left s, c.if-full.true, c.requires.opens))
          c.led_to-to.ensures.0 c.redirect.ensures,
    )

pub returns-else-full : goal.returns-else-full
returns-else-full c =
    let s = (goal.at.returns-else-full c).After-slot_relay-i in
    (less s, row_keeps c.requires (less s) (λ w. c.if-full.false (omega (arith, had s, left s))))
