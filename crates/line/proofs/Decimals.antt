-- Decimals digit by digit, as a loop reads them.
--   digits_end, digits_other, digits_next, digits_past    what the bytes that are left say: none, another byte, a digit, one too many
--   leading_short, leading_long                           where a leading zero can stand
--   decimal_empty, decimal_zero, decimal_digits           what a word is
-- Assumes nothing.
use mathlib.Core.Bool.{true, false, and-false}
use mathlib.Core.List.{List, [], ◌∷◌}
use mathlib.Core.Path.{◌≡◌, refl, ◌∙◌}
use Prim.Native.Nat.{ℕ, ◌+◌, ◌*◌, ◌-◌, ◌≤◌, ◌<◌}
use native.Mathlib.Numerals.{add-one}
use native.Mathlib.Omega.{arith}
use borrow.Author.Tests.{leb-true, lt-ltb, lt-leb, le-leb}
use lib.Dec.{eqb, leb}
use lib.ListN.{length, get_or, drop, drop_of_length-le}
use lib.Seq.{drop-cons}
use Rattle.std.specs.Prelude.{Some, None}
use Rattle.ring.proofs.Tests.{and_left}
use Rattle.line.specs.Decimal.{digit, all_digits, value, leading_zero, plain, decimal_of, digits_of}

-- ---- digits

pub digit_least : (b : ℕ) → digit b ≡ true → 48 ≤ b
unfolding digit
digit_least b d = leb-true 48 b (and_left (leb 48 b) (leb b 57) d)

value_most : (v : ℕ) (bs : List ℕ) → v ≤ value v bs
unfolding value
value_most v [] = omega arith
value_most v (b ∷ bs) = omega (arith, value_most (v * 10 + (b - 48)) bs)

-- no byte is left
pub digits_end : (w : List ℕ) (v i : ℕ) → length w ≤ i → v ≤ 4294967295 → digits_of v (drop i w) ≡ Some v
unfolding digits_of all_digits value
digits_end w v i e h = rw (drop_of_length-le w e, le-leb v 4294967295 h)

-- a number past the greatest stays past it, whatever stands behind
past : (v : ℕ) (bs : List ℕ) → 4294967295 < v → digits_of v bs ≡ None
unfolding digits_of
past v bs h = rw (lt-leb (value v bs) 4294967295 (omega (arith, value_most v bs)), and-false)

module _ (w : List ℕ) (v i : ℕ) (h : i < length w) where
  pub digits_other : digit (get_or w i 0) ≡ false → digits_of v (drop i w) ≡ None
  unfolding digits_of all_digits
  digits_other d = rw (drop-cons w i 0, d) refl

  pub digits_next : digit (get_or w i 0) ≡ true
      → digits_of v (drop i w) ≡ digits_of (v * 10 + (get_or w i 0 - 48)) (drop (i + 1) w)
  unfolding digits_of all_digits value
  digits_next d = rw (drop-cons w i 0, d, add-one) refl

  pub digits_past : digit (get_or w i 0) ≡ true → 4294967295 < v * 10 + (get_or w i 0 - 48) → digits_of v (drop i w) ≡ None
  digits_past d g = digits_next d ∙ past (v * 10 + (get_or w i 0 - 48)) (drop (i + 1) w) g

-- ---- a leading zero

pub leading_short : (w : List ℕ) → length w < 2 → leading_zero w ≡ false
unfolding leading_zero
leading_short [] h = refl
leading_short (b ∷ []) h = refl
leading_short (b ∷ c ∷ more) h = absurd (omega arith)

pub leading_long : (w : List ℕ) → 2 ≤ length w → leading_zero w ≡ eqb (get_or w 0 0) 48
unfolding leading_zero
leading_long [] h = absurd (omega arith)
leading_long (b ∷ []) h = absurd (omega arith)
leading_long (b ∷ c ∷ more) h = refl

-- ---- the number that a word is

pub decimal_empty : (w : List ℕ) → length w < 1 → decimal_of w ≡ None
unfolding decimal_of plain
decimal_empty [] h = refl
decimal_empty (b ∷ bs) h = absurd (omega arith)

pub decimal_zero : (w : List ℕ) → leading_zero w ≡ true → decimal_of w ≡ None
unfolding decimal_of plain
decimal_zero w h = rw (h, and-false, and-false)

pub decimal_digits : (w : List ℕ) → 0 < length w → leading_zero w ≡ false → digits_of 0 w ≡ decimal_of w
unfolding decimal_of plain digits_of
decimal_digits w h z = rw (lt-ltb 0 (length w) h, z)
