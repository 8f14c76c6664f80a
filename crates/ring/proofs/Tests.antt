-- Tests and what they say, for whoever goes by cases.
--   split                  by cases, keeping the equation
--   true_false             true is not false
--   and_left, and_right    a test of two parts
-- Assumes nothing.
use Rattle.std.proofs.Common.{◌≡◌, ℕ, Bool, true, false, ◌&&◌, refl, arith}

-- a test is true or false, and the equation is kept
pub split {ℓ} : {C : Type ℓ} (b : Bool) → (b ≡ true → C) → (b ≡ false → C) → C
split true f g = f refl
split false f g = g refl

pub true_false : true ≡ false → ⊥
true_false e = let z : ◌≡◌ {A = ℕ} 0 1 = cc in omega arith

-- ---- a test of two parts

pub and_left : (a b : Bool) → (a && b) ≡ true → a ≡ true
and_left true b e = refl
and_left false b e = e

pub and_right : (a b : Bool) → (a && b) ≡ true → b ≡ true
and_right true true e = e
and_right true false e = e
and_right false true e = refl
and_right false false e = e
