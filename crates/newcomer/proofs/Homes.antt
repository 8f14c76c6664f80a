-- The clockwise order of the newcomer, from the slot that it comes to first.
--   order_home    the slots from there on, once round
-- Assumes nothing.
use mathlib.Core.List.{List}
use mathlib.Core.Path.{◌≡◌, ap, ◌∙◌}
use Prim.Native.Nat.{ℕ, ◌^◌, ◌≤◌, ◌<◌}
use native.Mathlib.Omega.{arith}
use Rattle.ring.specs.Most.{most_relays}
use Rattle.ring.specs.Scheme.{Positions}
use Rattle.rule.specs.Order.{order}
use Rattle.tables.specs.Table.{relay_number, relay_limit}
use Rattle.tables.specs.Placement.{relay_positions}
use Rattle.order.specs.Keys.{slot_relay, Ordered}
use Rattle.nearest.specs.Nearest.{Nearest, Enters, itself, round, HomeAt}
use Rattle.nearest.proofs.Homes.{nearest_home}
use Rattle.meaning.specs.Meaning.{relays_in}
use Rattle.meaning.specs.Ascending.{Ascending}
use Rattle.meaning.proofs.Places.{places_ext}
use Rattle.slots.specs.Slots.{slot_at, round_number, round_limit}
use Rattle.slots.specs.Slots as Slots
use Rattle.slots.proofs.Steps.{slot_on, slot_round}
use Rattle.slots.proofs.Round.{order_round}

-- past the last of n slots is the first
slot_past : (n d : ℕ) → d < n → slot_at n n d ≡ slot_at n 0 d
slot_past n d c = omega (arith, slot_round n n (omega arith) d (omega arith), slot_on n 0 (omega arith) d (omega arith))

round_home : (rs keys : List ℕ) (n : ℕ) {h x : ℕ} → Enters n h x → Slots.round rs keys n h n ≡ Slots.round rs keys n x n
unfolding round_number round_limit
round_home rs keys n (itself e) = rw e
round_home rs keys n (round e z) =
    rw (e, z)
    (places_ext (round_number rs keys n n) (round_limit rs keys n n) (round_number rs keys n 0) (round_limit rs keys n 0) n
    (λ d c. ap (λ (k : ℕ). relay_number rs (slot_relay keys k)) (slot_past n d c))
    (λ d c. ap (λ (k : ℕ). relay_limit rs (slot_relay keys k)) (slot_past n d c)))

pub order_home : (p : Positions) (rs : List ℕ) (n : ℕ) → n ≤ most_relays → Ascending (relay_number rs) n → (keys : List ℕ)
    → Ordered (relay_positions p rs n) n keys → (t : ℕ) → p.tablet_at t < 2 ^ 32 → (k : ℕ)
    → Nearest keys n (p.tablet_at t) k
    → order p t (relays_in rs n) ≡ Slots.round rs keys n k n
order_home p rs n few a keys o t small k d =
    let b : HomeAt keys n (p.tablet_at t) k = nearest_home few o small d in
    order_round p rs n few a keys o t small b.slot b.home ∙ round_home rs keys n b.enters
