-- Where a relay and a tablet stand in the lent tables (document 01, "The lent tables"): flat lists of numbers, two to a place.
-- Whoever reads a place reads it by these names. How many numbers one has is known besides to what lays places out, `place` and `write` for tables and
-- `layout` for rosters, to what cuts a table into pairs, `entries`, `lookup` and `drill`, and to `relay_edit` and `roster`, which have
-- tables of their own. Assumes nothing.
use Rattle.std.specs.Prelude.{Bool, List, ℕ, ◌+◌, ◌*◌, ◌/◌, ◌%◌, ◌≤◌, eqb, length, get_or}
use Rattle.ring.specs.Most.{most_relays, most_tablets}

-- ---- either table: a number, and what stands beside it

-- how many whole places it has
unfoldable pub places_of : List ℕ → ℕ
places_of t = length t / 2

unfoldable pub number_in : List ℕ → ℕ → ℕ
number_in t i = get_or t (2 * i) 0

unfoldable pub beside_in : List ℕ → ℕ → ℕ
beside_in t i = get_or t (2 * i + 1) 0

-- it has whole places alone
unfoldable pub is_whole : List ℕ → Bool
is_whole t = eqb (length t % 2) 0

-- so many of its places can be in use, where so many may be
pub record InUse (most : ℕ) (t : List ℕ) (n : ℕ) : Type 0 where
  pub few : n ≤ most
  pub there : n ≤ places_of t

-- ---- the relay table: number, limit

abbrev pub relay_places : List ℕ → ℕ
relay_places = places_of

abbrev pub relay_number : List ℕ → ℕ → ℕ
relay_number = number_in

abbrev pub relay_limit : List ℕ → ℕ → ℕ
relay_limit = beside_in

abbrev pub RelaysIn : List ℕ → ℕ → Type 0
RelaysIn = InUse most_relays

-- ---- the tablet table: number, relay

abbrev pub tablet_places : List ℕ → ℕ
tablet_places = places_of

abbrev pub tablet_number : List ℕ → ℕ → ℕ
tablet_number = number_in

abbrev pub tablet_relay : List ℕ → ℕ → ℕ
tablet_relay = beside_in

abbrev pub TabletsIn : List ℕ → ℕ → Type 0
TabletsIn = InUse most_tablets
