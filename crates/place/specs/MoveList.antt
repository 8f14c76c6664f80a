-- One move written into a move list (document 01, "The lent tables"): three numbers to a move. Assumes nothing.
use Rattle.std.specs.Prelude.{List, [], ◌∷◌, ℕ, ◌*◌}
use Rattle.std.proofs.lemmas.List.Edits.{sets}

-- the list with this as its move c, counted from 0
unfoldable pub set_move : List ℕ → ℕ → ℕ → ℕ → ℕ → List ℕ
set_move list c tablet old new = sets list (3 * c) (tablet ∷ old ∷ new ∷ [])
