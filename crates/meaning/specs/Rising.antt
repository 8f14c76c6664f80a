-- What right tables give to a loop (document 01, "The lent tables"), place by place. Assumes nothing.
use Rattle.std.specs.Prelude.{List, ◌≡◌, ℕ, ◌≤◌, ◌<◌}
use Rattle.ring.specs.Scheme.{Positions}
use Rattle.ring.specs.Clockwise.{key}
use Rattle.rule.specs.Entry.{numbers, total}
use Rattle.ring.specs.Most.{most_limit}
use Rattle.rule.specs.Rooms.{fill}
use Rattle.rule.specs.Facts.{Table, Right}
use Rattle.tables.specs.Table.{relay_number, relay_limit, RelaysIn, tablet_number, tablet_relay, TabletsIn}
use Rattle.meaning.specs.Meaning.{relays_in, tablets_in, ring_of}
use Rattle.meaning.specs.Ascending.{Ascending}

-- the limits suffice, and beside every tablet stands the rule's relay
pub record Ruled (p : Positions) (rs ts : List ℕ) (n m : ℕ) : Type 0 where
  pub enough : m ≤ total (relays_in rs n)
  pub filled : tablets_in ts m ≡ fill (key p) (relays_in rs n) (numbers (tablets_in ts m))

-- right tables with n relays and m tablets
pub record Rises (p : Positions) (rs ts : List ℕ) (n m : ℕ) : Type 0 where
  pub relays_fit : RelaysIn rs n
  pub tablets_fit : TabletsIn ts m
  pub relays : Ascending (relay_number rs) n
  pub tablets : Ascending (tablet_number ts) m
  pub limits : (i : ℕ) → i < n → relay_limit rs i ≤ most_limit
  pub relays_rest : (i : ℕ) → n ≤ i → (relay_number rs i ≡ 0) × (relay_limit rs i ≡ 0)
  pub tablets_rest : (j : ℕ) → m ≤ j → (tablet_number ts j ≡ 0) × (tablet_relay ts j ≡ 0)
  pub relay_table : Table (relays_in rs n)
  pub tablet_table : Table (tablets_in ts m)
  pub ruled : Ruled p rs ts n m
  pub ring : Right p (ring_of rs ts)
