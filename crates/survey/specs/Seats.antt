-- What a check of right tables has found out (document 01, "The rule of placement"): the relays in ring order, the room left, the row, and of each
-- tablet its home and its relay's slot. Assumes nothing.
use Rattle.std.specs.Prelude.{List, ◌≡◌, ℕ, zero, suc, ◌%◌, ◌<◌, length, get_or, set, replicate}
use Rattle.ring.specs.Most.{most_relays, most_tablets}
use Rattle.ring.specs.Scheme.{Positions}
use Rattle.tables.specs.Table.{tablet_number}
use Rattle.tables.specs.Placement.{relay_positions, room_after, relay_for}
use Rattle.order.specs.Keys.{slot_relay, Ordered}
use Rattle.home.specs.Home.{key_at, Home}
use Rattle.row.specs.Row.{Row}
use Rattle.survey.specs.declared.Survey.{Survey}

-- before anything is learnt
unfoldable pub unlearnt : Survey
unlearnt = record {
  n = 0;
  m = 0;
  keys = replicate most_relays 0;
  room = replicate most_relays 0;
  next = replicate most_relays 0;
  last = replicate most_relays 0;
  home = replicate most_tablets 0;
  slot = replicate most_tablets 0;
}

-- for each relay one more than the place of the greatest of the first j tablets that it holds; 0 where it holds none
unfoldable pub last_after : Positions → List ℕ → List ℕ → ℕ → ℕ → List ℕ
last_after p rs ts n zero = replicate most_relays 0
last_after p rs ts n (suc j) = set (last_after p rs ts n j) (relay_for p rs ts n j) (suc j)

-- x is the home of position q as the row counts: past the last of all slots is the first
pub record HomeByte (keys : List ℕ) (n q x : ℕ) : Type 0 where
  pub slot : ℕ
  pub home : Home keys n (key_at q) slot
  pub is : x ≡ slot % most_relays

-- of each of the first j tablets its home, and the slot of its relay
pub record Seats (p : Positions) (rs ts : List ℕ) (n j : ℕ) (keys home slot : List ℕ) : Type 0 where
  pub homes : length home ≡ most_tablets
  pub slots : length slot ≡ most_tablets
  pub from : (t : ℕ) → t < j → HomeByte keys n (p.tablet_at (tablet_number ts t)) (get_or home t 0)
  pub inside : (t : ℕ) → t < j → get_or slot t 0 < n
  pub relay : (t : ℕ) → t < j → slot_relay keys (get_or slot t 0) ≡ relay_for p rs ts n t

-- the first m tablets are placed by the rule among n relays
pub record Surveyed (p : Positions) (rs ts : List ℕ) (n m : ℕ) (v : Survey) : Type 0 where
  pub relays : v.n ≡ n
  pub tablets : v.m ≡ m
  pub ordered : Ordered (relay_positions p rs n) n v.keys
  pub left : v.room ≡ room_after p rs ts n m
  pub row : Row v.keys v.room n 0 v.next
  pub greatest : v.last ≡ last_after p rs ts n m
  pub seats : Seats p rs ts n m v.keys v.home v.slot
