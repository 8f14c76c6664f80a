-- A move written behind those that a list has.
--   listed_none      before the first
--   listed_more      one more
--   length_listed    the list is as long as it was
--   length_moves     how many numbers the moves are
-- Assumes nothing.
use mathlib.Core.List.{List, [], ◌∷◌, ◌++◌}
use mathlib.Core.Path.{◌≡◌, refl, sym, ap, ap₂, ◌∙◌}
use Prim.Native.Nat.{ℕ, ◌+◌, ◌*◌, ◌≤◌}
use native.Mathlib.Omega.{arith}
use lib.ListN.{length, drop, length-append, length-drop}
use lib.Seq.{sets, sets-eq, take_at, drop-append-add, drop-drop}
use Rattle.rule.specs.declared.Move.{Move}
use Rattle.write.specs.Tables.{flat_moves, listed}
use Rattle.place.specs.MoveList.{set_move}

pub length_moves : (ms : List Move) → length (flat_moves ms) ≡ 3 * length ms
unfolding flat_moves
length_moves [] = refl
length_moves (m ∷ ms) = omega (arith, length_moves ms)

flat_more : (ms : List Move) (m : Move) → flat_moves (ms ++ (m ∷ []))
    ≡ flat_moves ms ++ (m.tablet.0 ∷ m.old.0 ∷ m.new.0 ∷ [])
unfolding flat_moves
flat_more [] m = refl
flat_more (x ∷ ms) m = ap (λ (l : List ℕ). x.tablet.0 ∷ x.old.0 ∷ x.new.0 ∷ l) (flat_more ms m)

pub listed_none : (list : List ℕ) → list ≡ listed [] list
unfolding listed flat_moves
listed_none list = refl

pub length_listed : (ms : List Move) (list : List ℕ) → 3 * length ms ≤ length list → length (listed ms list)
    ≡ length list
unfolding listed
length_listed ms list h =
    omega (
      arith,
      length-append (flat_moves ms) (drop (3 * length ms) list),
      length_moves ms,
      length-drop
          (3 * length ms) list,
    )

pub listed_more : (ms : List Move) (list : List ℕ) (m : Move) {before after : List ℕ} {c : ℕ} → before ≡ listed ms list
    → c ≡ length ms
    → 3 * (c + 1) ≤ length list → after ≡ set_move before c m.tablet.0 m.old.0 m.new.0
    → after ≡ listed (ms ++ (m ∷ [])) list
unfolding listed set_move
listed_more ms list m e ec h e' =
    let i : ℕ = 3 * length ms in
    let f : List ℕ = flat_moves ms in
    let three : List ℕ = m.tablet.0 ∷ m.old.0 ∷ m.new.0 ∷ [] in
    let fits : i + 3 ≤ length (f ++ drop i list) = omega (arith, length_listed ms list (omega arith)) in
    let far : i + 3 ≡ length f + 3 = omega (arith, length_moves ms) in
    let behind : drop (i + 3) (f ++ drop i list) ≡ drop (i + 3) list = ap (λ (k : ℕ). drop k (f ++ drop i list)) far
    ∙ drop-append-add f (drop i list) 3 ∙ drop-drop 3 i list in
    let all : 3 * length (ms ++ (m ∷ [])) ≡ i + 3 = omega (arith, length-append ms (m ∷ [])) in
    e' ∙ ap₂ (λ (l : List ℕ) (k : ℕ). sets l (3 * k) three) e ec ∙ sets-eq three (f ++ drop i list) i fits
    ∙ ap₂ (λ (a b : List ℕ). a ++ three ++ b) (take_at f (drop i list) i (length_moves ms)) behind
    ∙ sym (ap₂ (λ (l : List ℕ) (k : ℕ). l ++ drop k list) (flat_more ms m) all)
