-- When a roster's content is right, and when lent tables can take it (document 01, "Roster file"). Assumes nothing.
use Rattle.std.specs.Prelude.{Bool, true, ◌&&◌, List, [], ◌∷◌, ◌≡◌, ℕ, ltb, leb}
use Rattle.ring.specs.Scheme.{positions}
use Rattle.rule.specs.Entry.{Entry}
use Rattle.rule.specs.Rule.{Ring, rising, limits_fit, right}
use Rattle.tables.specs.Table.{relay_places, tablet_places}
use Rattle.tables.specs.Shape.{relay_fits, tablet_fits}
use Rattle.layout.specs.Roster.{roster_scheme, roster_ring}

-- no entry's number is zero
unfoldable pub numbered : List Entry → Bool
numbered [] = true
numbered (e ∷ es) = ltb 0 e.number && numbered es

unfoldable pub ring_right : ℕ → Ring → Bool
ring_right scheme g = numbered g.relays && (numbered g.tablets && right (positions scheme) g)

-- no entry's number is zero, and the entries make right tables under the trailer's scheme
unfoldable pub content_right : List ℕ → Bool
content_right b = ring_right (roster_scheme b) (roster_ring b)

-- entries that rise by number from 1, with limits within bounds
pub record Entries (g : Ring) : Type 0 where
  pub relays : rising 0 g.relays ≡ true
  pub limits : limits_fit g.relays ≡ true
  pub tablets : rising 0 g.tablets ≡ true

-- whole places, no more than may be lent, and enough for so many relays and tablets
unfoldable pub tables_fit : ℕ → ℕ → List ℕ → List ℕ → Bool
tables_fit n m rs ts = relay_fits rs && (tablet_fits ts && (leb n (relay_places rs) && leb m (tablet_places ts)))
