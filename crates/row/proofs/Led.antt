-- The slot that leads from a position's home has the relay that the rule chooses.
--   led, led_none       where some relay has room, and where none has
-- A key of the ring order is a key of the position's clockwise order, moved by the position: past the home as it is, before it by one round more.
-- Assumes nothing.
use Rattle.std.proofs.Common.{◌≡◌, ℕ, ◌+◌, ◌-◌, ◌*◌, ◌%◌, ◌^◌, ◌<◌, ◌≤◌, List, get_or, sym, ap, ◌∙◌, arith}
use native.Mathlib.Decide.{dec_lt}
use Rattle.ring.specs.Most.{most_relays}
use Rattle.ring.specs.Clockwise.{clockwise}
use Rattle.tables.specs.Placement.{nobody, key_from, open_key, least_key, first_with_room}
use Rattle.tables.proofs.Nearest.{least_low, least_high, least_top, key_open, key_shut}
use Rattle.order.specs.Keys.{ring_key, slot_relay, Ordered}
use Rattle.home.specs.Home.{key_at, Home}
use Rattle.order.proofs.Sinks.{rising_le}
use Rattle.row.specs.Row.{slot_room, Ahead, both, turn, past, Leads}

module _ (q to i : ℕ) (hq : q < 2 ^ 32) (ht : to < 2 ^ 32) where
  key_onward : q ≤ to → key_from q to i + key_at q ≡ to * 2 ^ 32 + i
  unfolding key_from clockwise
  key_onward h = let d : (to + (2 ^ 32 - q)) % 2 ^ 32 ≡ to - q = omega arith in rw d (omega arith)

  key_round : to < q → key_from q to i + key_at q ≡ to * 2 ^ 32 + i + 2 ^ 64
  unfolding key_from clockwise
  key_round h = let d : (to + (2 ^ 32 - q)) % 2 ^ 32 ≡ to + 2 ^ 32 - q = omega arith in rw d (omega arith)

module _ {position keys : List ℕ} {n q h : ℕ} (o : Ordered position n keys) (hn : n ≤ most_relays) (hq : q < 2 ^ 32)
    (b : Home keys n (key_at q) h) where
  -- the key, for a tablet at q, of the relay at slot l
  unfoldable pub key_of : ℕ → ℕ
  key_of l = key_from q (get_or position (slot_relay keys l) 0) (slot_relay keys l)

  onward : (l : ℕ) → l < n → h ≤ l → key_of l + key_at q ≡ get_or keys l 0
  unfolding key_of ring_key
  onward l c a =
      let i = o.holds.relay l c in
      let e = o.holds.key l c in
      let s = o.holds.small (slot_relay keys l) i in
      key_onward q _ _ hq s (omega (arith, b.ahead l a c)) ∙ sym e

  round : (l : ℕ) → l < n → l < h → key_of l + key_at q ≡ get_or keys l 0 + 2 ^ 64
  unfolding key_of ring_key
  round l c a =
      let i = o.holds.relay l c in
      let e = o.holds.key l c in
      let s = o.holds.small (slot_relay keys l) i in
      key_round q _ _ hq s (omega (arith, b.begins.passed l a)) ∙ ap (λ (x : ℕ). x + 2 ^ 64) (sym e)

  small : (l : ℕ) → l < n → get_or keys l 0 < 2 ^ 64
  unfolding ring_key
  small l c =
      let i = o.holds.relay l c in
      omega (arith, o.holds.key l c, o.holds.small (slot_relay keys l) i)

  -- who comes no later has no greater key
  pub nearer : (k l : ℕ) → k < n → l < n → Ahead h k l → key_of k ≤ key_of l
  nearer k l c d (both a e) = omega (arith, onward k c a, onward l d (omega arith), rising_le o.rises k l e d)
  nearer k l c d (turn a e) = omega (arith, onward k c a, round l d e, small k c)
  nearer k l c d (past a e) = omega (arith, round k c (omega arith), round l d e, rising_le o.rises k l a d)

  below_nobody : (l : ℕ) → l < n → key_of l ≤ nobody
  below_nobody l c =
      elim (dec_lt l h) [
        | yes d ↦ omega (arith, round l c d, b.begins.passed l d)
        | no d ↦ omega (arith, onward l c (omega arith), small l c)
      ]

  module _ {room : List ℕ} {k : ℕ} (f : Leads keys room n h k) where
    -- a relay with room is no nearer than the one that the slot leads to
    other : 0 < n → (i : ℕ) → i < n → Dec (0 < get_or room i 0) → key_of k ≤ open_key position room q i
    unfolding slot_room key_of
    other z i c (no d) = omega (arith, key_shut position room q i (omega arith), below_nobody k (f.inside z))
    other z i c (yes d) =
        let s = o.holds.every i c in
        let w : 0 < slot_room keys room s.slot = rw s.is d in
        let e : key_of s.slot ≡ key_from q (get_or position i 0) i = ap (λ (x : ℕ). key_from q (get_or position x 0) x)
        s.is in
        omega (
          arith,
          key_open position room q i d,
          nearer k s.slot (f.inside z) s.below
              (f.ahead s.slot s.below w),
        )

    pub led : 0 < n → 0 < slot_room keys room k → slot_relay keys k ≡ first_with_room position room q n
    unfolding slot_room key_of first_with_room key_from
    led z w =
        let i = slot_relay keys k in
        let c = o.holds.relay k (f.inside z) in
        let e : least_key position room q n ≡ key_of k =
        omega (
          arith,
          least_low position room q n i c,
          key_open position room q i w,
          least_high position room q n
              (key_of k) (below_nobody k (f.inside z)) (λ l d. other z l d (dec_lt 0 (get_or room l 0))),
        ) in
        rw e (index i (omega arith))
      where
        index : (i : ℕ) → i < most_relays → i ≡ key_from q (get_or position i 0) i % 2 ^ 32
        index i c = omega arith

    -- none has room
    pub led_none : slot_room keys room k ≤ 0 → first_with_room position room q n ≡ 4294967295
    unfolding slot_room first_with_room
    led_none z =
        let e : least_key position room q n ≡ nobody =
        omega (
          arith,
          least_top position room q n,
          least_high position room q n nobody (omega arith)
              (λ i c. omega (arith, key_shut position room q i (shut i c (dec_lt 0 (get_or room i 0))))),
        ) in
        rw e
      where
        shut : (i : ℕ) → i < n → Dec (0 < get_or room i 0) → get_or room i 0 ≤ 0
        shut i c (no d) = omega arith
        shut i c (yes d) =
            let s = o.holds.every i c in
            let w : 0 < slot_room keys room s.slot = rw s.is d in
            absurd (omega (arith, f.opens s.slot s.below w))
