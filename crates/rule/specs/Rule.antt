-- The rule of placement, and right tables (document 01, "The rule of placement", "The lent tables"), over any assignment of positions.
-- Assumes nothing.
use Rattle.std.specs.Prelude.{Bool, true, false, ◌&&◌, List, [], ◌∷◌, ◌++◌, ℕ, eqb, ltb, leb}
use Rattle.std.proofs.Math.Option.{Option, none, some}
use Rattle.ring.specs.Most.{top_number, most_limit}
use Rattle.ring.specs.Scheme.{Positions}
use Rattle.rule.specs.Entry.{Entry, entry, numbers, load, first}
use Rattle.rule.specs.Order.{order}

-- A relay is full when its load equals its limit; so a relay of limit 0 always is.
unfoldable pub full : List Entry → Entry → Bool
full tablets r = eqb (load tablets r.number) r.beside

-- its load is below its limit
unfoldable pub has_room : List Entry → Entry → Bool
has_room tablets r = ltb (load tablets r.number) r.beside

-- the first relay in the clockwise order of t that has room, once these tablets are seated
unfoldable pub seat : Positions → List Entry → List Entry → ℕ → Option Entry
seat p relays seated t = first (has_room seated) (order p t relays)

-- one tablet after the other
unfoldable pub seat_all : Positions → List Entry → List Entry → List ℕ → Option (List Entry)
seat_all p relays seated [] = some seated
seat_all p relays seated (t ∷ ts) =
    elim (seat p relays seated t) [ none ↦ none | some r ↦ seat_all p relays (seated ++ (entry t r.number ∷ [])) ts ]

-- Start with empty relays, and take the tablets, given by rising number. There is none where the limits sum to fewer than the tablets
-- (the law `placement_none`).
unfoldable pub placement : Positions → List Entry → List ℕ → Option (List Entry)
placement p relays tablets = seat_all p relays [] tablets

-- ---- right tables

pub record Ring : Type 0 where
  pub relays : List Entry
  pub tablets : List Entry

-- 32-bit numbers that rise strictly, all above low
unfoldable pub rising : ℕ → List Entry → Bool
rising low [] = true
rising low (e ∷ es) = ltb low e.number && (leb e.number top_number && rising e.number es)

unfoldable pub limits_fit : List Entry → Bool
limits_fit [] = true
limits_fit (e ∷ es) = leb e.beside most_limit && limits_fit es

unfoldable pub same : List Entry → List Entry → Bool
same [] [] = true
same [] (y ∷ ys) = false
same (x ∷ xs) [] = false
same (x ∷ xs) (y ∷ ys) = eqb x.number y.number && (eqb x.beside y.beside && same xs ys)

-- there is a placement, and it is this
unfoldable pub is_just : Option (List Entry) → List Entry → Bool
is_just none tablets = false
is_just (some placed) tablets = same placed tablets

-- numbers from 1 that rise, limits within bounds, and beside every tablet the rule's relay
unfoldable pub right : Positions → Ring → Bool
right p g =
    rising 0 g.relays && (limits_fit g.relays
    && (rising 0 g.tablets && is_just (placement p g.relays (numbers g.tablets)) g.tablets))
