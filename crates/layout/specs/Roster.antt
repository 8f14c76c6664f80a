-- A roster's bytes (document 01, "Roster file"): blocks first, then a trailer that points back. Assumes nothing.
use Rattle.std.specs.Prelude.{Bool, ◌&&◌, List, ◌≡◌, ℕ, ◌+◌, ◌*◌, ◌-◌, ◌≤◌, eqb, leb, length}
use Rattle.ring.specs.Most.{most_relays, most_tablets}
use Rattle.rule.specs.Entry.{Entry}
use Rattle.rule.specs.Rule.{Ring}
use Rattle.meaning.specs.Meaning.{places}
use Rattle.layout.specs.Numbers.{number_bytes, number_at}

-- ---- the trailer: five numbers at the end

abbrev pub trailer_bytes : ℕ
trailer_bytes = 20

unfoldable pub field : List ℕ → ℕ → ℕ
field b k = number_at b (length b - trailer_bytes + number_bytes * k)

-- from the end back to where the relay block starts
abbrev pub relay_distance : List ℕ → ℕ
relay_distance b = field b 0

abbrev pub relay_count : List ℕ → ℕ
relay_count b = field b 1

-- from the end back to where the tablet block starts
abbrev pub tablet_distance : List ℕ → ℕ
tablet_distance b = field b 2

abbrev pub tablet_count : List ℕ → ℕ
tablet_count b = field b 3

abbrev pub roster_scheme : List ℕ → ℕ
roster_scheme b = field b 4

-- ---- shape

-- an entry takes so many bytes
abbrev pub entry_bytes : ℕ
entry_bytes = 8

-- of so many bytes, with these distances and counts: counts are at most 256 and 4,096, the tablet distance is 20 + 8 × tablets, the relay
-- distance is that + 8 × relays, and the length equals the relay distance
unfoldable pub shaped : ℕ → ℕ → ℕ → ℕ → ℕ → Bool
shaped len relay_back relays tablet_back tablets =
    leb relays most_relays
    && (leb tablets most_tablets
    && (eqb tablet_back (trailer_bytes + entry_bytes * tablets)
    && (eqb relay_back (tablet_back + entry_bytes * relays) && eqb len relay_back)))

-- the length is at least 20, and the trailer's fields are such
unfoldable pub shape_right : List ℕ → Bool
shape_right b =
    leb trailer_bytes (length b) && shaped (length b) (relay_distance b) (relay_count b) (tablet_distance b) (tablet_count b)

-- what a right shape says
pub record Shape (b : List ℕ) : Type 0 where
  pub relays : relay_count b ≤ most_relays
  pub tablets : tablet_count b ≤ most_tablets
  pub size : length b ≡ trailer_bytes + entry_bytes * tablet_count b + entry_bytes * relay_count b
  pub relays_back : relay_distance b ≡ length b
  pub tablets_back : tablet_distance b ≡ trailer_bytes + entry_bytes * tablet_count b

-- ---- the blocks: an entry is its number, and beside it a relay's limit, a tablet's relay

unfoldable pub block : List ℕ → ℕ → ℕ → List Entry
block b at count =
    places (λ i. number_at b (at + entry_bytes * i)) (λ i. number_at b (at + entry_bytes * i + number_bytes)) count

unfoldable pub roster_ring : List ℕ → Ring
roster_ring b =
    record {
      relays = block b (length b - relay_distance b) (relay_count b);
      tablets = block b (length b - tablet_distance b) (tablet_count b);
    }
