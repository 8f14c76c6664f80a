-- Laws of a refill, a tablet at a time.
--   filling_none, filling_more, filling_end   no tablet is placed; one more is; all are
--   turn_takes, turn_below                    the slot that the row leads to from a tablet's home has room, for the limits suffice
-- Assumes nothing.
use mathlib.Core.List.{List}
use mathlib.Core.Path.{◌≡◌, refl, ap, ◌∙◌}
use Prim.Native.Nat.{ℕ, ◌+◌, ◌%◌, ◌≤◌, ◌<◌}
use native.Mathlib.Nat.{not-suc-le-zero}
use native.Mathlib.Omega.{arith}
use lib.ListN.{length, get_or, set, length-set}
use Rattle.ring.specs.Most.{most_relays, most_tablets}
use Rattle.ring.specs.Scheme.{Positions}
use Rattle.tables.specs.Table.{tablet_number}
use Rattle.tables.specs.Placement.{relay_positions, relay_limits, room_less, room_after, relay_for}
use Rattle.tables.proofs.Loops.{stored}
use Rattle.tables.proofs.Room.{room_more, room_size}
use Rattle.tables.proofs.Placed.{for_tablet}
use Rattle.order.specs.Keys.{slot_relay, Slot, Ordered}
use Rattle.row.specs.Row.{slot_room, Ahead, both, turn, past, Leads, Row, Takes}
use Rattle.row.proofs.Leads.{leads_at}
use Rattle.row.proofs.Led.{led}
use Rattle.meaning.proofs.Choice.{First}
use Rattle.meaning.proofs.Run.{run_first}
use Rattle.nearest.specs.Nearest.{Enters, itself, round, HomeAt}
use Rattle.ring_edit.specs.Homes.{Homes}
use Rattle.refill.specs.Refilled.{Refills, Refilled}

-- the first j tablets are placed by the rule: the relays in ring order, the room left, the row, and each tablet's relay
pub record Filling (p : Positions) (rs ts : List ℕ) (n j : ℕ) (keys room next relay : List ℕ) : Type 0 where
  pub ordered : Ordered (relay_positions p rs n) n keys
  pub left : room ≡ room_after p rs ts n j
  pub row : Row keys room n 0 next
  pub refilled : Refilled p rs ts n j relay

pub filling_none : {p : Positions} {rs ts : List ℕ} {n m : ℕ} {keys home room next relay : List ℕ}
    → Homes p rs ts n m keys home
    → room ≡ relay_limits rs n → Row keys room n 0 next → length relay ≡ most_tablets
    → Filling p rs ts n 0 keys room next relay
unfolding room_after
filling_none o left row size = record {
  ordered = o.ordered;
  left = left;
  row = row;
  refilled = record { size = size; below = λ t l. absurd (not-suc-le-zero l); is = λ t l. absurd (not-suc-le-zero l) };
}

pub filling_end : {p : Positions} {rs ts : List ℕ} {n j m : ℕ} {keys room next relay : List ℕ} → m ≤ j
    → Filling p rs ts n j keys room next relay
    → Refilled p rs ts n m relay
filling_end h f =
    record {
      size = f.refilled.size;
      below = λ t l. f.refilled.below t (omega arith);
      is = λ t l. f.refilled.is t
          (omega arith);
    }

-- however the positions come, the first j tablets are placed by the rule
pub record Fills (rs : List ℕ) (n m j : ℕ) (keys home room next relay : List ℕ) : Type 0 where
  pub by : (p : Positions) (ts : List ℕ) → Homes p rs ts n m keys home → Filling p rs ts n j keys room next relay

-- tablet j's walk goes from slot h, and the row leads from there to slot k
pub record Turn (p : Positions) (rs ts : List ℕ) (n m j : ℕ) (keys home room next relay : List ℕ)
    (h k : ℕ) : Type 0 where
  pub asked : Refills rs n m keys home
  pub more : j < m
  pub homes : Homes p rs ts n m keys home
  pub filling : Filling p rs ts n j keys room next relay
  pub from : h ≡ get_or home j 0
  pub byte : h < most_relays
  pub led_to : k ≡ get_or next (h % most_relays) 0

-- from past the last slot as from the first
leads_past : {keys room : List ℕ} {n k : ℕ} → Leads keys room n 0 k → Leads keys room n n k
leads_past {n = n} o = record { inside = o.inside; opens = o.opens; ahead = λ l a b. on a (o.ahead l a b) }
  where
    on : {k l : ℕ} → l < n → Ahead 0 k l → Ahead n k l
    on z (both a b) = past b z
    on z (turn a b) = absurd (not-suc-le-zero b)
    on z (past a b) = absurd (not-suc-le-zero b)

module _ {p : Positions} {rs ts : List ℕ} {n m j : ℕ} {keys home room next relay : List ℕ} {h k : ℕ}
    (t : Turn p rs ts n m j keys home room next relay h k) where
  -- tablet j's home
  start : HomeAt keys n (p.tablet_at (tablet_number ts j)) (get_or home j 0)
  start = t.homes.from j t.more

  leads : Leads keys room n start.slot k
  leads = go start.enters
    where
      go : Enters n start.slot (get_or home j 0) → Leads keys room n start.slot k
      go (itself e) =
          let z : start.slot ≡ h = omega (arith, t.from) in
          rw (z, t.led_to) (leads_at h t.asked.relays.few (omega (arith, start.home.begins.within))
          t.filling.row)
      go (round e o) =
          let z : h ≡ 0 = omega (arith, t.from) in
          rw (e, t.led_to, z) (leads_past (t.filling.row.leads 0 (omega arith) (omega arith) (omega arith)))

  -- the rule has a relay for tablet j
  first : First p rs (room_after p rs ts n j) n (tablet_number ts j) (relay_for p rs ts n j)
  first = run_first p rs ts n t.asked.relays.few t.asked.rising j (omega (arith, t.more, t.asked.enough))

  opens : 0 < slot_room keys room k
  unfolding slot_room
  opens =
      let s : Slot keys n (relay_for p rs ts n j) = t.filling.ordered.holds.every (relay_for p rs ts n j)
      first.below in
      leads.opens s.slot s.below (rw (s.is, t.filling.left) first.has_room)

  some_relay : 0 < n
  some_relay = omega (arith, first.below)

  pub turn_takes : Takes keys room next n k
  turn_takes = record {
    few = t.asked.relays.few;
    inside = leads.inside some_relay;
    opens = opens;
    size = ap length t.filling.left ∙ room_size p rs ts n j;
    apart = t.filling.ordered.holds.apart;
    row = t.filling.row;
  }

  turn_relay : slot_relay keys k ≡ relay_for p rs ts n j
  turn_relay =
      for_tablet p rs ts n j refl t.filling.left refl refl
      (led t.filling.ordered t.asked.relays.few (t.homes.small j t.more)
      start.home leads some_relay opens)

  pub turn_below : j < most_tablets
  turn_below = omega (arith, t.more, t.asked.few)

  pub filling_more : {room' next' : List ℕ} {i : ℕ} → i ≡ slot_relay keys k → room' ≡ room_less room (slot_relay keys k)
      → Row keys room' n 0 next'
      → Filling p rs ts n (j + 1) keys room' next' (set relay j i)
  filling_more e less row = record {
    ordered = t.filling.ordered;
    left = less ∙ room_more p rs ts n j t.filling.left turn_relay;
    row = row;
    refilled = record {
      size = simp length-set o.size;
      below = λ x c. stored (λ _ y. y < n) relay j (omega (arith, o.size, turn_below))
          (omega (arith, e, turn_relay, first.below)) x
          (λ d. o.below x (omega arith));
      is = λ x c. stored (λ x y. y ≡ relay_for p rs ts n x) relay j (omega (arith, o.size, turn_below))
          (e ∙ turn_relay) x
          (λ d. o.is x (omega arith));
    };
  }
    where
      o : Refilled p rs ts n j relay
      o = t.filling.refilled
