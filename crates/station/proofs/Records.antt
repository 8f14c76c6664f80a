-- The list that moves were handed out to.
--   handed_moves     where the numbers begin with the moves, they are its first records, and the records behind them stay
-- Assumes nothing.
use mathlib.Core.List.{List, [], ◌∷◌, ◌++◌}
use mathlib.Core.Path.{◌≡◌, refl, sym, ap, ap₂, ◌∙◌}
use Prim.Native.Nat.{ℕ, zero, suc, ◌+◌, ◌*◌, ◌≤◌, ◌<◌}
use native.Mathlib.Omega.{arith}
use lib.ListN.{length, get_or, set, take, drop}
use lib.Seq.{set_at, get_or-take, take-suc, take-length, drop-cons, length-take-le, append_snoc}
use Rattle.rule.specs.declared.Move.{Move}
use Rattle.rule.specs.Calls.{move}
use Rattle.write.specs.Tables.{flat_moves}
use Rattle.records.specs.Outcome.{recorded}
use Rattle.records.specs.Record.{move_at}
use Rattle.station.specs.Handed.{handed}

-- ---- move i of the moves' numbers is their move i

move_next : (a b c : ℕ) (l : List ℕ) (i : ℕ) → move_at (a ∷ b ∷ c ∷ l) (suc i) ≡ move_at l i
move_next a b c l i =
    λ j. move (get_or (a ∷ b ∷ c ∷ l) (first j) 0) (get_or (a ∷ b ∷ c ∷ l) (second j) 0) (get_or (a ∷ b ∷ c ∷ l) (third j) 0)
  where
    first : 3 * suc i ≡ suc (suc (suc (3 * i)))
    first = omega arith

    second : 3 * suc i + 1 ≡ suc (suc (suc (3 * i + 1)))
    second = omega arith

    third : 3 * suc i + 2 ≡ suc (suc (suc (3 * i + 2)))
    third = omega arith

move_flat : (ms : List Move) (i : ℕ) (d : Move) → i < length ms → move_at (flat_moves ms) i ≡ get_or ms i d
unfolding flat_moves
move_flat [] i d h = absurd (omega arith)
move_flat (m ∷ ms) zero d h = refl
move_flat (m ∷ ms) (suc i) d h =
    move_next m.tablet.0 m.old.0 m.new.0 (flat_moves ms) i ∙ move_flat ms i d (omega arith)

-- it reads no further than the moves
move_take : (numbers : List ℕ) (n i : ℕ) → i < n → move_at (take (3 * n) numbers) i ≡ move_at numbers i
move_take numbers n i h =
    λ j. move
    (get_or-take (3 * n) numbers (3 * i) 0 (omega arith) j)
    (get_or-take (3 * n) numbers (3 * i + 1) 0 (omega arith) j)
    (get_or-take (3 * n) numbers (3 * i + 2) 0 (omega arith) j)

-- ---- handed out

-- where the numbers' moves are these, the first n of them
handed_firsts : (ms list : List Move) (numbers : List ℕ) (n : ℕ)
    → ((i : ℕ) (d : Move) → i < length ms → move_at numbers i ≡ get_or ms i d)
    → n ≤ length ms → n ≤ length list → handed list numbers n ≡ take n ms ++ drop n list
unfolding handed
handed_firsts ms list numbers zero f h k = refl
handed_firsts ms list numbers (suc n) f h k =
    let d : Move = move 0 0 0 in
    ap₂ (λ (l : List Move) (m : Move). set l n m)
    (handed_firsts ms list numbers n f (omega arith) (omega arith) ∙ ap (λ (l : List Move). take n ms ++ l)
    (drop-cons list n d k))
    (f n d h)
    ∙ set_at (take n ms) (get_or list n d) (drop (suc n) list) (get_or ms n d) n (length-take-le n ms (omega arith))
    ∙ sym (append_snoc (take n ms) (get_or ms n d) (drop (suc n) list))
    ∙ ap (λ (l : List Move). l ++ drop (suc n) list) (sym (take-suc ms n d h))

pub handed_moves : (ms list : List Move) (numbers : List ℕ) (n : ℕ) → n ≡ length ms → n ≤ length list
    → take (3 * n) numbers ≡ flat_moves ms
    → handed list numbers n ≡ recorded ms list
unfolding recorded
handed_moves ms list numbers n e h t =
    handed_firsts ms list numbers n
    (λ i d l. sym (move_take numbers n i (omega arith)) ∙ ap (λ (z : List ℕ). move_at z i) t ∙ move_flat ms i d l)
    (omega arith) h
    ∙ ap₂ (λ (a b : List Move). a ++ b) (ap (λ (k : ℕ). take k ms) e ∙ take-length ms) (ap (λ (k : ℕ). drop k list) e)
