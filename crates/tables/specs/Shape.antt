-- The shape of a lent table (document 01, "The lent tables"): said once for both, over the number at each place, what stands beside it
-- (a relay's limit, a tablet's relay), and how many places there are. Assumes nothing.
use Rattle.std.specs.Prelude.{Bool, true, ◌&&◌, cond, List, ℕ, zero, suc, ◌+◌, ◌-◌, eqb, ltb, leb}
use Rattle.ring.specs.Most.{top_number, most_relays, most_tablets, most_limit}
use Rattle.tables.specs.Table.{places_of, number_in, beside_in, is_whole}

-- f is true of every number below n
unfoldable pub all : (ℕ → Bool) → ℕ → Bool
all f zero = true
all f (suc i) = all f i && f i

-- how many of the first i places have a number
unfoldable pub used : (ℕ → ℕ) → ℕ → ℕ
used number zero = 0
used number (suc i) = used number i + cond (ltb 0 (number i)) 1 0

-- the number before place i, 0 before the first
unfoldable pub previous : (ℕ → ℕ) → ℕ → ℕ
previous number zero = 0
previous number (suc i) = number i

-- an entry's number is above the one before, and what stands beside it is at most top
unfoldable pub entry_right : ℕ → ℕ → ℕ → ℕ → Bool
entry_right top before number beside = ltb before number && leb beside top

-- an unused place holds zeros
unfoldable pub unused : ℕ → ℕ → Bool
unused number beside = eqb number 0 && eqb beside 0

-- place i has an entry
unfoldable pub entry_at : ℕ → (ℕ → ℕ) → (ℕ → ℕ) → ℕ → Bool
entry_at top number beside i = entry_right top (previous number i) (number i) (beside i)

-- the place i behind the n entries is unused
unfoldable pub unused_at : (ℕ → ℕ) → (ℕ → ℕ) → ℕ → ℕ → Bool
unused_at number beside n i = unused (number (n + i)) (beside (n + i))

-- of so many places the first n are entries, which rise strictly, and every later place is unused
unfoldable pub shape : ℕ → (ℕ → ℕ) → (ℕ → ℕ) → ℕ → ℕ → Bool
shape top number beside n places =
    leb n places && (all (entry_at top number beside) n && all (unused_at number beside n) (places - n))

-- ---- either table

unfoldable pub used_in : List ℕ → ℕ
used_in t = used (number_in t) (places_of t)

-- whole places, and not too many
unfoldable pub fits_in : ℕ → List ℕ → Bool
fits_in most t = is_whole t && leb (places_of t) most

-- the table is as it must be, with n entries
unfoldable pub table_shape : ℕ → ℕ → List ℕ → ℕ → Bool
table_shape most top t n = fits_in most t && shape top (number_in t) (beside_in t) n (places_of t)

-- ---- the two tables

abbrev pub relays_used : List ℕ → ℕ
relays_used = used_in

abbrev pub tablets_used : List ℕ → ℕ
tablets_used = used_in

abbrev pub relay_fits : List ℕ → Bool
relay_fits = fits_in most_relays

abbrev pub tablet_fits : List ℕ → Bool
tablet_fits = fits_in most_tablets

abbrev pub relay_shape : List ℕ → ℕ → Bool
relay_shape = table_shape most_relays most_limit

-- what stands beside a tablet may be any 32-bit number
abbrev pub tablet_shape : List ℕ → ℕ → Bool
tablet_shape = table_shape most_tablets top_number
