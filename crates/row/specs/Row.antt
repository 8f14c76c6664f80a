-- The row: for each slot of the ring the first slot with room clockwise from it (document 01, "The rule of placement"). Assumes nothing.
use Rattle.std.specs.Prelude.{◌≡◌, ℕ, ◌<◌, ◌≤◌, cond, List, length, ◌==◌, slice_index}
use Rattle.ring.specs.Most.{most_relays}
use Rattle.order.specs.Keys.{slot_relay, Apart}

-- the room of the relay at slot k
unfoldable pub slot_room : List ℕ → List ℕ → ℕ → ℕ
slot_room keys room k = slice_index room (slot_relay keys k)

-- going clockwise from slot h, slot k comes no later than slot l: neither comes round, l alone does, or both do
pub data Ahead (h k l : ℕ) : Type 0 where
  both : h ≤ k → k ≤ l → Ahead h k l
  turn : h ≤ k → l < h → Ahead h k l
  past : k ≤ l → l < h → Ahead h k l

-- clockwise from slot h, slot k is the first with room, if any of the n has room
pub record Leads (keys room : List ℕ) (n h k : ℕ) : Type 0 where
  pub inside : 0 < n → k < n
  pub opens : (l : ℕ) → l < n → 0 < slot_room keys room l → 0 < slot_room keys room k
  pub ahead : (l : ℕ) → l < n → 0 < slot_room keys room l → Ahead h k l

-- next leads so from every slot from m on, and from past the last slot as from the first
pub record Row (keys room : List ℕ) (n m : ℕ) (next : List ℕ) : Type 0 where
  pub size : length next ≡ most_relays
  pub leads : (h : ℕ) → m ≤ h → h ≤ n → h < most_relays → Leads keys room n h (slice_index next h)

-- in the first i of b each k of a has become `to`; else b is as a
pub record Redirected (i k to : ℕ) (a b : List ℕ) : Type 0 where
  pub size : length b ≡ length a
  pub done : (h : ℕ) → h < i → slice_index b h ≡ cond (slice_index a h == k) to (slice_index a h)
  pub rest : (h : ℕ) → i ≤ h → slice_index b h ≡ slice_index a h

-- slot k has room, and may take one more tablet
pub record Takes (keys room next : List ℕ) (n k : ℕ) : Type 0 where
  pub few : n ≤ most_relays
  pub inside : k < n
  pub opens : 0 < slot_room keys room k
  pub size : length room ≡ most_relays
  pub apart : Apart n keys
  pub row : Row keys room n 0 next
