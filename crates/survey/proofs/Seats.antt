-- Laws of a survey, a tablet at a time.
--   seat_below, seat_takes, seat_relay, seat_right   the slot that the row leads to from a tablet's home
--   surveyed_none, surveyed_more                     no tablet is placed; one more is
-- Assumes nothing.
use mathlib.Core.Bool.{Bool, ◌&&◌}
use mathlib.Core.List.{List}
use mathlib.Core.Path.{◌≡◌, refl, sym, ap, ◌∙◌}
use Prim.Native.Nat.{ℕ, ◌+◌, ◌%◌, ◌^◌, ◌≤◌, ◌<◌}
use native.Mathlib.Decide.{dec_lt}
use native.Mathlib.Nat.{not-suc-le-zero}
use native.Mathlib.Numerals.{add-one}
use native.Mathlib.Omega.{arith}
use borrow.Author.Tests.{lt-ltb, le-ltb}
use lib.Dec.{ltb, eqb}
use lib.ListN.{length, get_or, set, replicate, length-set}
use Rattle.ring.specs.Most.{most_relays, most_tablets}
use Rattle.ring.specs.Scheme.{Positions}
use Rattle.tables.specs.Table.{relay_number, tablet_number, tablet_relay}
use Rattle.tables.specs.Placement.{relay_positions, relay_limits, first_with_room, room_less, room_after, relay_for, placed_at}
use Rattle.tables.proofs.Loops.{stored}
use Rattle.tables.proofs.Room.{room_more, room_size, room_beyond}
use Rattle.tables.proofs.Placed.{for_tablet, placed_none}
use Rattle.order.specs.Keys.{slot_relay, Ordered}
use Rattle.home.specs.Home.{key_at, Home}
use Rattle.row.specs.Row.{slot_room, Leads, Row, Takes}
use Rattle.survey.specs.declared.Survey.{Survey}
use Rattle.survey.specs.Seats.{last_after, HomeByte, Seats, Surveyed}
use Rattle.row.proofs.Leads.{leads_at}
use Rattle.row.proofs.Led.{led, led_none}

-- ---- no tablet yet

pub surveyed_none : {p : Positions} {rs ts : List ℕ} {n : ℕ} {position keys room next home slot : List ℕ}
    → position ≡ relay_positions p rs n → Ordered position n keys
    → room ≡ relay_limits rs n → Row keys room n 0 next → length home ≡ most_tablets → length slot ≡ most_tablets
    → Surveyed p rs ts n 0 (record { n = n; m = 0; keys = keys; room = room; next = next; last = replicate most_relays 0; home = home; slot = slot })
unfolding room_after last_after
surveyed_none e o left row lh ls = record {
  relays = refl;
  tablets = refl;
  ordered = rw (← e) o;
  left = left;
  row = row;
  greatest = refl;
  seats = record {
    homes = lh;
    slots = ls;
    from = λ t l. absurd (not-suc-le-zero l);
    inside = λ t l. absurd (not-suc-le-zero l);
    relay = λ t l. absurd (not-suc-le-zero l);
  };
}

-- ---- the seat of tablet j

-- its home is h, and the row leads from there to slot k, whose relay is at place i
pub record Seat (p : Positions) (rs ts : List ℕ) (n j : ℕ) (v : Survey) (h k i : ℕ) : Type 0 where
  pub survey : Surveyed p rs ts n j v
  pub few : n ≤ most_relays
  pub small : p.tablet_at (tablet_number ts j) < 2 ^ 32
  pub from : Home v.keys n (key_at (p.tablet_at (tablet_number ts j))) h
  pub led_to : k ≡ get_or v.next (h % most_relays) 0
  pub relay : i ≡ slot_relay v.keys k

module _ {p : Positions} {rs ts : List ℕ} {n j : ℕ} {v : Survey} {h k i : ℕ} (s : Seat p rs ts n j v h k i) where
  leads : Leads v.keys v.room n h k
  leads = rw s.led_to (leads_at h s.few s.from.begins.within s.survey.row)

  -- past the relays in use there is no room
  pub seat_below : 0 < get_or v.room i 0 → i < n
  seat_below w =
      elim (dec_lt i n) [
        | yes d ↦ d
        | no d ↦ absurd
            (omega (arith, room_beyond p rs ts n j i (omega arith), ap (λ (l : List ℕ). get_or l i 0) s.survey.left))
      ]

  room_there : get_or v.room i 0 ≡ slot_room v.keys v.room k
  unfolding slot_room
  room_there = ap (λ (i : ℕ). get_or v.room i 0) s.relay

  pub seat_takes : 0 < get_or v.room i 0 → Takes v.keys v.room v.next n k
  seat_takes w = record {
    few = s.few;
    inside = leads.inside (omega (arith, seat_below w));
    opens = omega (arith, room_there);
    size = ap length s.survey.left ∙ room_size p rs ts n j;
    apart = s.survey.ordered.holds.apart;
    row = s.survey.row;
  }

  rules : {i : ℕ} → i ≡ first_with_room (relay_positions p rs n) v.room (p.tablet_at (tablet_number ts j)) n
      → i ≡ relay_for p rs ts n j
  rules e = for_tablet p rs ts n j refl s.survey.left refl refl e

  pub seat_relay : 0 < get_or v.room i 0 → i ≡ relay_for p rs ts n j
  seat_relay w =
      rules (s.relay ∙ led s.survey.ordered s.few s.small s.from leads (omega (arith, seat_below w))
      (omega (arith, room_there)))

  seat_none : get_or v.room i 0 ≤ 0 → 4294967295 ≡ relay_for p rs ts n j
  seat_none w =
      rules (sym (led_none s.survey.ordered s.few s.small s.from leads (omega (arith, room_there))))

  -- the relay there has room and is written beside the tablet just where the rule's is
  pub seat_right : {r : Bool} → r ≡ (ltb 0 (get_or v.room i 0) && eqb (relay_number rs i) (tablet_relay ts j))
      → r ≡ placed_at p rs ts n j
  unfolding placed_at
  seat_right e = e ∙ go (dec_lt 0 (get_or v.room i 0))
    where
      go : Dec (0 < get_or v.room i 0) → (ltb 0 (get_or v.room i 0) && eqb (relay_number rs i) (tablet_relay ts j))
          ≡ placed_at p rs ts n j
      go (yes w) = rw (lt-ltb 0 (get_or v.room i 0) w, ← seat_relay w, lt-ltb i n (seat_below w))
      go (no w) =
          rw (le-ltb 0 (get_or v.room i 0) (omega arith))
          (sym (placed_none p rs ts n j _ (seat_none (omega arith)) (omega (arith, s.few))))

  pub surveyed_more : {room' next' : List ℕ} → 0 < get_or v.room i 0 → j < most_tablets
      → room' ≡ room_less v.room (slot_relay v.keys k) → Row v.keys room' n 0 next'
      → Surveyed p rs ts n (j + 1)
      (record {
        n = n;
        m = j + 1;
        keys = v.keys;
        room = room';
        next = next';
        last = set v.last i (j + 1);
        home = set v.home j (h % most_relays);
        slot = set v.slot j k;
      })
  unfolding last_after
  surveyed_more w l less row = record {
    relays = refl;
    tablets = refl;
    ordered = s.survey.ordered;
    left = less ∙ room_more p rs ts n j s.survey.left (sym s.relay ∙ seat_relay w);
    row = row;
    greatest = rw (add-one, s.survey.greatest, seat_relay w);
    seats = record {
      homes = simp length-set o.homes;
      slots = simp length-set o.slots;
      from = λ t c. stored (λ t y. HomeByte v.keys n (p.tablet_at (tablet_number ts t)) y) v.home j
          (omega (arith, o.homes)) here t (λ d. o.from t (omega arith));
      inside = λ t c. stored (λ _ y. y < n) v.slot j (omega (arith, o.slots)) (seat_takes w).inside t
          (λ d. o.inside t (omega arith));
      relay = λ t c. stored (λ t y. slot_relay v.keys y ≡ relay_for p rs ts n t) v.slot j (omega (arith, o.slots))
          (sym s.relay ∙ seat_relay w) t (λ d. o.relay t (omega arith));
    };
  }
    where
      o : Seats p rs ts n j v.keys v.home v.slot
      o = s.survey.seats

      here : HomeByte v.keys n (p.tablet_at (tablet_number ts j)) (h % most_relays)
      here = record { slot = h; home = s.from; is = refl }
