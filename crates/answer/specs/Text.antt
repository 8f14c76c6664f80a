-- What `watch` prints for a call (document 01, "A drill to prove"): refusal number, relay, passed, moves, and per move `m tablet old new`. Bytes
-- are their numbers in ASCII: 10 ends a line, 32 is the space, 48 is `0`, 109 is `m`. Assumes nothing.
use Rattle.std.specs.Prelude.{cond, List, [], ◌∷◌, ◌++◌, ℕ, zero, suc, ◌+◌, ◌*◌, ◌/◌, ◌%◌, min, ltb, length, get_or}
use Rattle.rule.specs.declared.Reply.{Reply}
use Rattle.rule.specs.Refusals.{number_of}

-- ---- numbers

-- a number of at most so many digits and one: its last digit behind the others
unfoldable pub digits_by : ℕ → ℕ → List ℕ
digits_by zero n = (48 + n % 10) ∷ []
digits_by (suc more) n = cond (ltb n 10) ((48 + n % 10) ∷ []) (digits_by more (n / 10) ++ ((48 + n % 10) ∷ []))

-- a 32-bit number has at most ten digits
unfoldable pub number_text : ℕ → List ℕ
number_text n = digits_by 9 n

-- a number and the byte behind it
unfoldable pub number_then : ℕ → ℕ → List ℕ
number_then n behind = number_text n ++ (behind ∷ [])

-- ---- lines

unfoldable pub reply_text : Reply → List ℕ
reply_text r =
    number_then (number_of r.refusal) 32 ++ (number_then r.relay.0 32
    ++ (number_then r.passed 32 ++ number_then r.moves 10))

unfoldable pub move_text : ℕ → ℕ → ℕ → List ℕ
move_text tablet old new = (109 ∷ 32 ∷ []) ++ (number_then tablet 32 ++ (number_then old 32 ++ number_then new 10))

-- move i of a list of numbers, three to a move
unfoldable pub move_text_at : List ℕ → ℕ → List ℕ
move_text_at moves i = move_text (get_or moves (i * 3) 0) (get_or moves (i * 3 + 1) 0) (get_or moves (i * 3 + 2) 0)

-- the first moves
unfoldable pub moves_text : List ℕ → ℕ → List ℕ
moves_text moves zero = []
moves_text moves (suc i) = moves_text moves i ++ move_text_at moves i

-- the reply and its moves, of which a list can hold a third of its length
unfoldable pub answer_text : Reply → List ℕ → List ℕ
answer_text r moves = reply_text r ++ moves_text moves (min r.moves (length moves / 3))
