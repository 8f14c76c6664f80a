-- The relays in ring order with every tablet's home (document 01, "The ring"), and how homes move once one relay is put in or taken out. Assumes
-- nothing.
use Rattle.std.specs.Prelude.{cond, List, ◌≡◌, ℕ, ◌+◌, ◌-◌, ◌%◌, ◌^◌, ◌≤◌, ◌<◌, ltb, length, get_or}
use Rattle.ring.specs.Most.{most_relays, most_tablets}
use Rattle.ring.specs.Scheme.{Positions}
use Rattle.ring.specs.Clockwise.{sooner}
use Rattle.tables.specs.Table.{tablet_number, TabletsIn}
use Rattle.tables.specs.Placement.{relay_positions}
use Rattle.order.specs.Keys.{slot_relay, KeysRise, Ordered}
use Rattle.home.specs.Home.{key_at, Home}
use Rattle.nearest.specs.Nearest.{in_slots, HomeAt}
use Rattle.ring_edit.specs.Shift.{KeysLess, KeysMore}
use Rattle.ring_edit.specs.declared.Around.{Around}

-- the n relays in ring order, and of each of the first m tablets the slot that its walk goes from
pub record Homes (p : Positions) (rs ts : List ℕ) (n m : ℕ) (keys home : List ℕ) : Type 0 where
  pub ordered : Ordered (relay_positions p rs n) n keys
  pub size : length home ≡ most_tablets
  pub small : (t : ℕ) → t < m → p.tablet_at (tablet_number ts t) < 2 ^ 32
  pub from : (t : ℕ) → t < m → HomeAt keys n (p.tablet_at (tablet_number ts t)) (get_or home t 0)

-- the first j homes have become f of the tablet's place and of what they were, and the others are as they were
pub record HomesMoved (f : ℕ → ℕ → ℕ) (j : ℕ) (before after : List ℕ) : Type 0 where
  pub size : length after ≡ length before
  pub moved : (t : ℕ) → t < j → get_or after t 0 ≡ f t (get_or before t 0)
  pub rest : (t : ℕ) → j ≤ t → get_or after t 0 ≡ get_or before t 0

-- ---- a relay less, at slot s

unfoldable pub home_less : ℕ → ℕ → ℕ
home_less s h = cond (ltb s h) (h - 1) h

abbrev pub less_at : ℕ → ℕ → ℕ → ℕ
less_at s t h = home_less s h

-- ---- a relay more, at slot s: whose home was there comes to the new relay first, or to the one that was there before, at slot k now

-- the slot behind slot s of n + 1, round the top of the ring
unfoldable pub slot_after : ℕ → ℕ → ℕ
slot_after n s = cond (ltb s n) (s + 1) 0

unfoldable pub home_more : List ℕ → ℕ → ℕ → ℕ → ℕ → ℕ
home_more keys s k t h =
    cond (ltb h s) h (cond (ltb s h) ((h + 1) % most_relays)
    (cond (sooner (in_slots keys) t k s) ((h + 1) % most_relays) h))

abbrev pub more_at : Positions → List ℕ → List ℕ → ℕ → ℕ → ℕ → ℕ → ℕ
more_at p ts keys s k t h = home_more keys s k (p.tablet_at (tablet_number ts t)) h

-- ---- both

-- n relays are left once the one at place `at` is taken out
pub record TakenOut (n m at : ℕ) (keys home : List ℕ) (r : Around) : Type 0 where
  pub slot : ℕ
  pub below : slot < n + 1
  pub is : slot_relay keys slot ≡ at
  pub shorter : KeysLess n slot at keys r.keys
  pub moved : HomesMoved (less_at slot) m home r.home

-- n relays in ring order, and room for one more
pub record PutsIn (ts : List ℕ) (n m at : ℕ) (keys : List ℕ) : Type 0 where
  pub few : n < most_relays
  pub within : at ≤ n
  pub rises : KeysRise n keys
  pub small : (k : ℕ) → k < n → get_or keys k 0 < 2 ^ 64 - 1
  pub tablets : TabletsIn ts m

-- to n relays one is put in at place `at`, at position q
pub record PutIn (p : Positions) (ts : List ℕ) (n m at q : ℕ) (keys home : List ℕ) (r : Around) : Type 0 where
  pub slot : ℕ
  pub from : Home keys n (key_at q + at) slot
  pub longer : KeysMore n slot at (key_at q + at) keys r.keys
  pub moved : HomesMoved (more_at p ts r.keys slot (slot_after n slot)) m home r.home
