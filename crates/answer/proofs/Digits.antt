-- How a number is printed is how document 01 has it.
--   spelled    what is printed of a 32-bit number is its text
-- Assumes nothing.
use mathlib.Core.List.{List, [], ◌∷◌, ◌++◌}
use mathlib.Core.Path.{◌≡◌, refl, sym}
use Prim.Native.Nat.{ℕ, zero, suc, ◌+◌, ◌/◌, ◌%◌, ◌≤◌, ◌<◌}
use native.Mathlib.Omega.{arith}
use borrow.Author.Tests.{lt-ltb, le-ltb}
use Rattle.std.specs.Fmt.{decimal}
use Rattle.std.proofs.lemmas.Fmt.{AppendsLastDigit, decimal_from_appends, length-decimal-le}
use Rattle.answer.specs.Text.{digits_by, number_text}

-- so many of the last digits
last_digits : ℕ → ℕ → List ℕ
last_digits zero n = []
last_digits (suc more) n = digits_by more n

one_digit : (more n : ℕ) → n < 10 → digits_by more n ≡ (48 + n) ∷ []
unfolding digits_by
one_digit zero n h = let e : n % 10 ≡ n = omega arith in rw e refl
one_digit (suc more) n h = let e : n % 10 ≡ n = omega arith in rw (lt-ltb n 10 h, e) refl

more_digits : (k n : ℕ) → 10 ≤ n → digits_by k n ≡ last_digits k (n / 10) ++ ((48 + n % 10) ∷ [])
unfolding digits_by last_digits
more_digits zero n h = refl
more_digits (suc k) n h = rw (le-ltb n 10 h) refl

by_last : AppendsLastDigit last_digits
unfolding last_digits
by_last = record { one = one_digit; more = more_digits }

pub spelled : (n : ℕ) → n < 4294967296 → decimal n ≡ number_text n
unfolding number_text last_digits
spelled n h = sym (decimal_from_appends last_digits by_last 10 n (omega arith) (length-decimal-le 10 n (omega arith) (omega arith) (omega arith)))
