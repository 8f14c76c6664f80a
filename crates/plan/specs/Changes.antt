-- The moves that come of other relays beside the same tablets (document 01, "The lent tables"), by rising number, growing at the end as the
-- loops make them. The law `moved_changes` says that they are the paper's moves. Assumes nothing.
use Rattle.std.specs.Prelude.{Bool, true, false, List, [], ◌∷◌, ◌++◌, ℕ, zero, suc, eqb, get_or}
use Rattle.ring.specs.Scheme.{Positions}
use Rattle.rule.specs.declared.Move.{Move}
use Rattle.rule.specs.Calls.{move}
use Rattle.tables.specs.Table.{relay_number, tablet_number, tablet_relay}
use Rattle.tables.specs.Placement.{relay_for}

-- one tablet more, which stays or moves
unfoldable pub grown : Bool → List Move → Move → List Move
grown true c m = c
grown false c m = c ++ (m ∷ [])

-- of the first j tablets: f gives each its number, b its relay before, d its relay afterwards
unfoldable pub changes : (ℕ → ℕ) → (ℕ → ℕ) → (ℕ → ℕ) → ℕ → List Move
changes f b d zero = []
changes f b d (suc j) = grown (eqb (b j) (d j)) (changes f b d j) (move (f j) (b j) (d j))

-- tablet j's relay, where an array gives its place
unfoldable pub new_relay : List ℕ → List ℕ → ℕ → ℕ
new_relay rs relay j = relay_number rs (get_or relay j 0)

-- the moves to these relays
unfoldable pub changes_to : List ℕ → List ℕ → List ℕ → ℕ → List Move
changes_to rs relay ts m = changes (tablet_number ts) (tablet_relay ts) (new_relay rs relay) m

-- tablet j's relay by the rule, and the moves to the rule's relays
unfoldable pub ruled_relay : Positions → List ℕ → List ℕ → ℕ → ℕ → ℕ
ruled_relay p rs ts n j = relay_number rs (relay_for p rs ts n j)

unfoldable pub ruled_changes : Positions → List ℕ → List ℕ → ℕ → ℕ → List Move
ruled_changes p rs ts n m = changes (tablet_number ts) (tablet_relay ts) (ruled_relay p rs ts n) m
