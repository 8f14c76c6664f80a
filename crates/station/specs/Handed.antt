-- Moves as three numbers each, handed out as records (document 01, "The lent tables", on a move list). Assumes nothing.
use Rattle.std.specs.Prelude.{List, ℕ, zero, suc, set}
use Rattle.rule.specs.declared.Move.{Move}
use Rattle.records.specs.Record.{move_at}

-- the list with the first n moves written in its first n places
unfoldable pub handed : List Move → List ℕ → ℕ → List Move
handed list numbers zero = list
handed list numbers (suc n) = set (handed list numbers n) n (move_at numbers n)
