-- How entries and moves stand in lent numbers afterwards (document 01, "The lent tables"). Assumes nothing.
use Rattle.std.specs.Prelude.{List, [], ◌∷◌, ◌++◌, ℕ, ◌*◌, ◌-◌, length, drop, replicate}
use Rattle.rule.specs.declared.Move.{Move}
use Rattle.rule.specs.Entry.{Entry}
use Rattle.rule.specs.Rule.{Ring}

-- ---- tables: entries first, every later place zeros

unfoldable pub flat : List Entry → List ℕ
flat [] = []
flat (e ∷ es) = e.number ∷ e.beside ∷ flat es

-- so many numbers, these first and zeros behind them
unfoldable pub filled : ℕ → List ℕ → List ℕ
filled len l = l ++ replicate (len - length l) 0

unfoldable pub relay_table : ℕ → Ring → List ℕ
relay_table len g = filled len (flat g.relays)

unfoldable pub tablet_table : ℕ → Ring → List ℕ
tablet_table len g = filled len (flat g.tablets)

-- ---- the move list: three numbers to a move; places behind the last move keep what they held

unfoldable pub flat_moves : List Move → List ℕ
flat_moves [] = []
flat_moves (m ∷ ms) = m.tablet.0 ∷ m.old.0 ∷ m.new.0 ∷ flat_moves ms

unfoldable pub listed : List Move → List ℕ → List ℕ
listed ms list = flat_moves ms ++ drop (3 * length ms) list
