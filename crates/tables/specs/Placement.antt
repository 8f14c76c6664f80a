-- The rule of placement (document 01, "The rule of placement") over the tables' places, n relays in use: every definition goes by the
-- number of places done, as the loops do. Assumes nothing.
use Rattle.std.specs.Prelude.{Bool, ◌&&◌, cond, List, ℕ, zero, suc, ◌+◌, ◌-◌, ◌*◌, ◌%◌, ◌^◌, min, eqb, ltb, get_or, set, replicate}
use Rattle.ring.specs.Most.{most_relays}
use Rattle.ring.specs.Scheme.{Positions}
use Rattle.ring.specs.Clockwise.{clockwise}
use Rattle.tables.specs.Table.{relay_number, relay_limit, tablet_number, tablet_relay}
use Rattle.tables.specs.Shape.{all, relays_used, tablets_used, relay_shape, tablet_shape}

-- an array with a number for each relay: the first n are f's, the others 0
unfoldable pub array : (ℕ → ℕ) → ℕ → List ℕ
array f zero = replicate most_relays 0
array f (suc i) = set (array f i) i (f i)

unfoldable pub relay_positions : Positions → List ℕ → ℕ → List ℕ
relay_positions p rs n = array (λ i. p.relay_at (relay_number rs i)) n

unfoldable pub relay_limits : List ℕ → ℕ → List ℕ
relay_limits rs n = array (relay_limit rs) n

-- ---- the first relay with room in the clockwise order from a position

-- above every key
abbrev pub nobody : ℕ
nobody = 2 ^ 64 - 1

-- the key of the relay at place i, which stands at position q, for a tablet at position t: by distance, equal distances by place, which is by number
unfoldable pub key_from : ℕ → ℕ → ℕ → ℕ
key_from t q i = clockwise t q * 2 ^ 32 + i

-- a full relay has none
unfoldable pub open_key : List ℕ → List ℕ → ℕ → ℕ → ℕ
open_key position room t i = cond (ltb 0 (get_or room i 0)) (key_from t (get_or position i 0) i) nobody

unfoldable pub least_key : List ℕ → List ℕ → ℕ → ℕ → ℕ
least_key position room t zero = nobody
least_key position room t (suc i) = min (least_key position room t i) (open_key position room t i)

-- the place of the first relay with room; past every place where none has room
unfoldable pub first_with_room : List ℕ → List ℕ → ℕ → ℕ → ℕ
first_with_room position room t n = least_key position room t n % 2 ^ 32

-- ---- the tablets, by rising number

-- one more is placed at relay i
unfoldable pub room_less : List ℕ → ℕ → List ℕ
room_less room i = set room i (get_or room i 0 - 1)

-- the room that the first j tablets leave
unfoldable pub room_after : Positions → List ℕ → List ℕ → ℕ → ℕ → List ℕ
room_after p rs ts n zero = relay_limits rs n
room_after p rs ts n (suc j) =
    let room = room_after p rs ts n j in
    room_less room (first_with_room (relay_positions p rs n) room (p.tablet_at (tablet_number ts j)) n)

-- the place of tablet j's relay
unfoldable pub relay_for : Positions → List ℕ → List ℕ → ℕ → ℕ → ℕ
relay_for p rs ts n j = first_with_room (relay_positions p rs n) (room_after p rs ts n j) (p.tablet_at (tablet_number ts j)) n

-- there is such a relay, and it is written beside tablet j
unfoldable pub placed_at : Positions → List ℕ → List ℕ → ℕ → ℕ → Bool
placed_at p rs ts n j = ltb (relay_for p rs ts n j) n && eqb (relay_number rs (relay_for p rs ts n j)) (tablet_relay ts j)

-- the relays written beside the first m tablets are the rule's
unfoldable pub placed : Positions → List ℕ → List ℕ → ℕ → ℕ → Bool
placed p rs ts n m = all (placed_at p rs ts n) m

-- the table pair is right
unfoldable pub right : Positions → List ℕ → List ℕ → Bool
right p rs ts =
    relay_shape rs (relays_used rs) && (tablet_shape ts (tablets_used ts) && placed p rs ts (relays_used rs)
    (tablets_used ts))
