-- A list of numbers as records of three.
--   record_text    the line of a record is that of the move in its place
-- Assumes nothing.
use mathlib.Core.List.{List, []}
use mathlib.Core.Path.{◌≡◌, refl, ap, ◌∙◌}
use Prim.Native.Nat.{ℕ, zero, suc, ◌+◌, ◌*◌, ◌<◌}
use native.Mathlib.Omega.{arith}
use lib.ListN.{get_or, take, drop}
use Rattle.std.specs.Simd.{first_chunks}
use Rattle.std.proofs.lemmas.List.{get_or-take, get_or-drop, drop-drop}
use Rattle.answer.specs.Text.{move_text, move_text_at}

record_at : (n i : ℕ) (l : List ℕ) → i < n → get_or (first_chunks 3 n l) i [] ≡ take 3 (drop (i * 3) l)
record_at zero i l h = absurd (omega arith)
record_at (suc n) zero l h = refl
record_at (suc n) (suc i) l h =
    let e : 3 + i * 3 ≡ suc i * 3 = omega arith in
    record_at n i (drop 3 l) (omega arith) ∙ ap (take 3) (drop-drop (i * 3) 3 l ∙ ap (λ k. drop k l) e)

number_at : (n i j : ℕ) (l : List ℕ) → i < n → j < 3 → get_or (get_or (first_chunks 3 n l) i []) j 0 ≡ get_or l (i * 3 + j) 0
number_at n i j l h g = rw (record_at n i l h) (get_or-take 3 (drop (i * 3) l) j 0 g ∙ get_or-drop (i * 3) l j 0)

pub record_text : (n i : ℕ) (l : List ℕ) → i < n
    → move_text (get_or (get_or (first_chunks 3 n l) i []) 0 0) (get_or (get_or (first_chunks 3 n l) i []) 1 0)
    (get_or (get_or (first_chunks 3 n l) i []) 2 0) ≡ move_text_at l i
unfolding move_text_at
record_text n i l h =
    let e : i * 3 + 0 ≡ i * 3 = omega arith in
    rw (number_at n i 0 l h (omega arith), number_at n i 1 l h (omega arith), number_at n i 2 l h (omega arith), e) refl
