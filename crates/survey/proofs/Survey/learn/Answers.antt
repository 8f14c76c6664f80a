-- `survey::Survey::learn` meets its contract. The invariant: the first j tablets are placed by the rule and surveyed, and a walk to the last
-- position, or past it, may begin at h. Assumes nothing.
use mathlib.Core.Path.{◌≡◌, refl, sym, ap, ◌∙◌}
use Prim.Native.Nat.{◌<◌}
use native.Mathlib.Omega.{arith}
use borrow.Author.Tests.{ltb-true}
use lib.Dec.{ltb}
use lib.ListN.{get_or}
use Rattle.ring.specs.Most.{most_tablets}
use Rattle.ring.proofs.Tests.{and_left}
use Rattle.ring.specs.Scheme.{positions}
use Rattle.tables.specs.Table.{tablet_number}
use Rattle.tables.specs.Shape.{all}
use Rattle.tables.specs.Placement.{placed_at, placed}
use Rattle.tables.proofs.Loops.{all_more, all_false}
use Rattle.home.proofs.Walk.{begins_none, home_at}
use Rattle.std.proofs.Common.{rules}
use Rattle.survey.proofs.Seats.{surveyed_none, surveyed_more, Seat, seat_below, seat_takes, seat_right}
use Rattle.survey.proofs.Survey.learn.Goals as goal
use Rattle.survey.proofs.Survey.learn.Goals.{After-slot_relay-i, After-stands_beside, Else-not-stands_beside, In-loop-j}

-- ---- one tablet
-- its number is within the table
there : (c : In-loop-j) → c.loop-j.j < most_tablets
there c = omega (arith, c.loop-j-test.true, c.requires.1.few)

-- its seat
seat : (c : After-slot_relay-i)
    → Seat (positions c.args.scheme) c.args.relays.now c.args.tablets.now c.args.n c.loop-j.j
    (record {
      n = c.args.n;
      m = c.loop-j.j;
      keys = c.ring_order-keys.result;
      room = c.loop-j.room;
      next = c.loop-j.next;
      last = c.loop-j.last;
      home = c.loop-j.self.home;
      slot = c.loop-j.self.slot;
    })
    c.home_of-h.result c.led_to-k.result c.slot_relay-i.result
seat c =
    let e : c.tablet_at-p.result.0 ≡ (positions c.args.scheme).tablet_at (tablet_number c.args.tablets.now c.loop-j.j) =
    c.tablet_at-p.ensures ∙ ap (positions _).tablet_at c.tablet_number.ensures in
    record {
      survey = c.loop-j.invariant.2;
      few = c.requires.0.few;
      small = rw (← e) (omega (arith, c.tablet_at-p.type_inv));
      from = home_at e c.home_of-h.ensures;
      led_to = c.led_to-k.ensures.0;
      relay = c.slot_relay-i.ensures.0;
    }

-- the relay written beside it is the rule's, or not
beside : (c : After-stands_beside)
    → Seat (positions c.args.scheme) c.args.relays.now c.args.tablets.now c.args.n c.loop-j.j
    (record {
      n = c.args.n;
      m = c.loop-j.j;
      keys = c.ring_order-keys.result;
      room = c.loop-j.room;
      next = c.loop-j.next;
      last = c.loop-j.last;
      home = c.loop-j.self.home;
      slot = c.loop-j.self.slot;
    })
    c.home_of-h.result c.led_to-k.result c.slot_relay-i.result
    → c.stands_beside.result ≡ placed_at (positions c.args.scheme) c.args.relays.now c.args.tablets.now c.args.n c.loop-j.j
beside c s = seat_right s c.stands_beside.ensures

-- where it is, the relay has room
opens : (c : Else-not-stands_beside)
    → (0 < get_or c.loop-j.room c.slot_relay-i.result 0)
opens c =
    ltb-true _ _ (and_left (ltb 0 (get_or c.loop-j.room c.slot_relay-i.result 0)) _
    (sym c.stands_beside.ensures ∙ c.if-not-stands_beside.false))

pub loop-j-init : goal.loop-j-init
unfolding placed all
loop-j-init c = (
  refl,
  begins_none _ _ _,
  surveyed_none
      c.relay_positions-position.ensures c.ring_order-keys.ensures
      c.relay_limits-room.ensures c.first_row-next.ensures (search rules) (search rules),
)

pub stands_beside-requires : goal.stands_beside-requires
stands_beside-requires c = (
  c.slot_relay-i.ensures.1,
  λ w. omega (arith, seat_below (seat (goal.at.stands_beside-requires c).After-slot_relay-i) w, c.requires.0.there),
  omega (arith, c.loop-j-test.true, c.requires.1.there),
)

pub take-requires : goal.take-requires
take-requires c =
    let back = goal.at.take-requires c in
    seat_takes (seat back.After-slot_relay-i) (opens back.Else-not-stands_beside)

pub loop-j-preserved : goal.loop-j-preserved
unfolding placed
loop-j-preserved c =
    let back = goal.at.loop-j-preserved c in
    let r = c.if-not-stands_beside.false in
    let s = seat back.After-slot_relay-i in
    let e = c.take.ensures in (
      all_more (placed_at _ _ _ _) c.loop-j.invariant.0
          (sym (beside back.After-stands_beside (seat back.After-slot_relay-i)) ∙ r),
      c.home_of-h.ensures.begins,
      surveyed_more s (opens back.Else-not-stands_beside)
          (there back.In-loop-j) e.0 e.1,
    )

pub returns-then-not-stands_beside : goal.returns-then-not-stands_beside
unfolding placed
returns-then-not-stands_beside c =
    let back = goal.at.returns-then-not-stands_beside c in
    let r = c.if-not-stands_beside.true in
    let e = beside back.After-stands_beside (seat back.After-slot_relay-i) in
    (sym (all_false (placed_at _ _ _ _) _ c.loop-j-test.true (sym e ∙ r)), refl)
