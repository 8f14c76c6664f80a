-- Laws of the rule of placement, a tablet at a time.
--   for_tablet                     what was found from the arrays is the rule's relay for tablet j
--   placed_none, placed_there      what is written beside tablet j, against the rule's relay
-- Assumes nothing.
use mathlib.Core.Bool.{true, false}
use mathlib.Core.List.{List}
use mathlib.Core.Path.{◌≡◌, ◌∙◌}
use Prim.Native.Nat.{ℕ, ◌≤◌, ◌<◌}
use borrow.Author.Tests.{lt-ltb, le-ltb, eq-eqb}
use Rattle.ring.specs.Scheme.{Positions}
use Rattle.tables.specs.Table.{relay_number, tablet_number, tablet_relay}
use Rattle.tables.specs.Placement.{relay_positions, first_with_room, room_after, relay_for, placed_at}

module _ (p : Positions) (rs ts : List ℕ) (n j : ℕ) where
  pub for_tablet : {position room : List ℕ} {t x i : ℕ} → position ≡ relay_positions p rs n
      → room ≡ room_after p rs ts n j → x ≡ tablet_number ts j → t ≡ p.tablet_at x
      → i ≡ first_with_room position room t n → i ≡ relay_for p rs ts n j
  unfolding relay_for
  for_tablet a b d e f = f ∙ rw (a, b, e, d)

module _ (p : Positions) (rs ts : List ℕ) (n j i : ℕ) (e : i ≡ relay_for p rs ts n j) where
  pub placed_none : n ≤ i → placed_at p rs ts n j ≡ false
  unfolding placed_at
  placed_none h = rw (← e, le-ltb i n h)

  pub placed_there : i < n → relay_number rs i ≡ tablet_relay ts j → placed_at p rs ts n j ≡ true
  unfolding placed_at
  placed_there h d = rw (← e, lt-ltb i n h, eq-eqb _ _ d)
