-- How long an answer can be.
--   answer_room    no longer than 44 bytes and 35 for each move that the list can hold
-- Assumes nothing.
use mathlib.Core.List.{List, [], ◌∷◌, ◌++◌}
use Prim.Native.Nat.{ℕ, zero, suc, ◌+◌, ◌*◌, ◌/◌, ◌%◌, ◌≤◌, min}
use native.Mathlib.Omega.{arith}
use lib.Dec.{ltb}
use lib.ListN.{length, get_or, length-append}
use Rattle.ring.proofs.Tests.{split}
use Rattle.rule.specs.declared.Reply.{Reply}
use Rattle.rule.specs.Refusals.{number_of}
use Rattle.answer.specs.Text.{digits_by, number_text, number_then, reply_text, move_text, move_text_at, moves_text, answer_text}

digits_room : (more n : ℕ) → length (digits_by more n) ≤ more + 1
unfolding digits_by
digits_room zero n = omega arith
digits_room (suc more) n = split (ltb n 10)
    (λ s. rw s (omega arith))
    (λ s. rw s (omega (arith, length-append (digits_by more (n / 10)) ((48 + n % 10) ∷ []), digits_room more (n / 10))))

number_room : (n b : ℕ) → length (number_then n b) ≤ 11
unfolding number_then number_text
number_room n b = omega (arith, length-append (digits_by 9 n) (b ∷ []), digits_room 9 n)

-- four texts, one behind the other
join_room : (a b c d : List ℕ) → length (a ++ (b ++ (c ++ d))) ≤ length a + length b + length c + length d
join_room a b c d = omega (arith, length-append a (b ++ (c ++ d)), length-append b (c ++ d), length-append c d)

reply_room : (r : Reply) → length (reply_text r) ≤ 44
unfolding reply_text
reply_room r =
    omega (
      arith,
      join_room (number_then (number_of r.refusal) 32) (number_then r.relay.0 32) (number_then r.passed 32)
          (number_then r.moves 10),
      number_room (number_of r.refusal) 32,
      number_room r.relay.0 32,
      number_room r.passed 32,
      number_room r.moves 10,
    )

move_room : (tablet old new : ℕ) → length (move_text tablet old new) ≤ 35
unfolding move_text
move_room tablet old new =
    omega (
      arith,
      join_room (109 ∷ 32 ∷ []) (number_then tablet 32) (number_then old 32) (number_then new 10),
      number_room tablet 32,
      number_room old 32,
      number_room new 10,
    )

moves_room : (moves : List ℕ) (i : ℕ) → length (moves_text moves i) ≤ 35 * i
unfolding moves_text move_text_at
moves_room moves zero = omega arith
moves_room moves (suc i) =
    omega (
      arith,
      moves_room moves i,
      length-append (moves_text moves i) (move_text_at moves i),
      move_room (get_or moves (i * 3) 0) (get_or moves (i * 3 + 1) 0) (get_or moves (i * 3 + 2) 0),
    )

pub answer_room : (r : Reply) (moves : List ℕ) → length (answer_text r moves) ≤ 44 + 35 * (length moves / 3)
unfolding answer_text
answer_room r moves =
    let count : ℕ = min r.moves (length moves / 3) in
    let h : count ≤ length moves / 3 = omega arith in
    omega (arith, h, length-append (reply_text r) (moves_text moves count), reply_room r, moves_room moves count)
