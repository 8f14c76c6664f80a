-- Whether a list stands first in another.
--   begins_take                  it does where the other begins with it
--   begins_apart, begins_short   it does not where a number differs, or the other is shorter
--   begins_long, begins_front    where it does, the other is no shorter, and is it with more behind
-- Assumes nothing.
use mathlib.Core.Bool.{Bool, true, false, and-false}
use mathlib.Core.Path.{◌≡◌, refl, sym, ap₂, ◌∙◌}
use mathlib.Core.List.{List, [], ◌∷◌, ◌++◌}
use Prim.Native.Nat.{ℕ, zero, suc, ◌≤◌, ◌<◌}
use native.Mathlib.Omega.{arith}
use borrow.Author.Tests.{ltb-true, ltb-false, eqb-true, eq-eqb}
use lib.Dec.{eqb, ltb}
use lib.ListN.{length, get_or, take, drop}
use Rattle.ring.proofs.Tests.{split, true_false, and_left, and_right}
use Rattle.rule.specs.Sheet.{begins}

pub begins_take : (xs ys : List ℕ) → take (length xs) ys ≡ xs → begins xs ys ≡ true
unfolding begins
begins_take [] ys e = refl
begins_take (x ∷ xs) [] e = let z : ◌≡◌ {A = ℕ} 0 1 = cc in absurd (omega arith)
begins_take (x ∷ xs) (y ∷ ys) e =
    let h : x ≡ y = cc in
    let t : take (length xs) ys ≡ xs = cc in
    rw (eq-eqb x y h) (begins_take xs ys t)

begins_at : (xs ys : List ℕ) → begins xs ys ≡ true → (k : ℕ) → k < length xs → get_or ys k 0 ≡ get_or xs k 0
unfolding begins
begins_at [] ys e k h = absurd (omega arith)
begins_at (x ∷ xs) [] e k h =
    let z : ◌≡◌ {A = Bool} false true = e in let y : ◌≡◌ {A = ℕ} 0 1 = cc in absurd (omega arith)
begins_at (x ∷ xs) (y ∷ ys) e zero h = sym (eqb-true x y (and_left (eqb x y) (begins xs ys) e))
begins_at (x ∷ xs) (y ∷ ys) e (suc k) h = begins_at xs ys (and_right (eqb x y) (begins xs ys) e) k (omega arith)

pub begins_apart : (xs ys : List ℕ) (k : ℕ) → k < length xs → (get_or ys k 0 ≡ get_or xs k 0 → ⊥) → begins xs ys ≡ false
begins_apart xs ys k h d = split (begins xs ys) (λ s. absurd (d (begins_at xs ys s k h))) (λ s. s)

pub begins_short : (xs ys : List ℕ) → length ys < length xs → begins xs ys ≡ false
unfolding begins
begins_short [] ys h = absurd (omega arith)
begins_short (x ∷ xs) [] h = refl
begins_short (x ∷ xs) (y ∷ ys) h = rw (begins_short xs ys (omega arith)) (and-false (eqb x y))

pub begins_long : (xs ys : List ℕ) → begins xs ys ≡ true → length xs ≤ length ys
begins_long xs ys e =
    split (ltb (length ys) (length xs))
    (λ s. absurd (true_false (sym e ∙ begins_short xs ys (ltb-true (length ys) (length xs) s))))
    (λ s. ltb-false (length ys) (length xs) s)

pub begins_front : (xs ys : List ℕ) → begins xs ys ≡ true → xs ++ drop (length xs) ys ≡ ys
unfolding begins
begins_front [] ys e = refl
begins_front (x ∷ xs) [] e = let y : ◌≡◌ {A = ℕ} 0 1 = cc in absurd (omega arith)
begins_front (x ∷ xs) (y ∷ ys) e =
    ap₂ ◌∷◌ (eqb-true x y (and_left (eqb x y) (begins xs ys) e))
    (begins_front xs ys (and_right (eqb x y) (begins xs ys) e))
