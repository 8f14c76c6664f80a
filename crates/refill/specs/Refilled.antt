-- What placing every tablet afresh asks, and what it finds (document 01, "The rule of placement"). Assumes nothing.
use Rattle.std.specs.Prelude.{List, ◌≡◌, ℕ, ◌≤◌, ◌<◌, length, get_or}
use Rattle.ring.specs.Most.{most_tablets}
use Rattle.ring.specs.Scheme.{Positions}
use Rattle.rule.specs.Entry.{total}
use Rattle.tables.specs.Table.{relay_number, RelaysIn}
use Rattle.tables.specs.Placement.{relay_for}
use Rattle.meaning.specs.Meaning.{relays_in}
use Rattle.meaning.specs.Ascending.{Ascending}
use Rattle.ring_edit.specs.Homes.{Homes}

-- n relays by rising number, in ring order, with the homes of m tablets, which the limits suffice for
pub record Refills (rs : List ℕ) (n m : ℕ) (keys home : List ℕ) : Type 0 where
  pub relays : RelaysIn rs n
  pub rising : Ascending (relay_number rs) n
  pub few : m ≤ most_tablets
  pub enough : m ≤ total (relays_in rs n)
  pub positions : Positions
  pub tablets : List ℕ
  pub homes : Homes positions rs tablets n m keys home

-- for each of the first m tablets the place of the rule's relay. (By the law `run_fill` of `meaning` these relays are the rule's filling.)
pub record Refilled (p : Positions) (rs ts : List ℕ) (n m : ℕ) (relay : List ℕ) : Type 0 where
  pub size : length relay ≡ most_tablets
  pub below : (j : ℕ) → j < m → get_or relay j 0 < n
  pub is : (j : ℕ) → j < m → get_or relay j 0 ≡ relay_for p rs ts n j
