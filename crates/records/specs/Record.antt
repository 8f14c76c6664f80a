-- A move of three numbers as a record (document 01, "The lent tables", on a move list). Assumes nothing.
use Rattle.std.specs.Prelude.{List, ℕ, ◌+◌, ◌*◌, get_or}
use Rattle.rule.specs.declared.Move.{Move}
use Rattle.rule.specs.Calls.{move}

-- move i of the numbers
abbrev pub move_at : List ℕ → ℕ → Move
move_at numbers i = move (get_or numbers (3 * i) 0) (get_or numbers (3 * i + 1) 0) (get_or numbers (3 * i + 2) 0)
