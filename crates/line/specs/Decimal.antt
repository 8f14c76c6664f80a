-- Plain decimals up to 4294967295 with no leading zero (document 01, "A drill to prove"). Bytes are their numbers in ASCII: 48 is `0`, 57 is
-- `9`. Assumes nothing.
use Rattle.std.specs.Prelude.{Bool, true, false, not, ◌&&◌, cond, List, [], ◌∷◌, Option, Some, None, ℕ, ◌+◌, ◌*◌, ◌-◌, eqb, ltb, leb, length}
use Rattle.ring.specs.Most.{top_number}

unfoldable pub digit : ℕ → Bool
digit b = leb 48 b && leb b 57

unfoldable pub all_digits : List ℕ → Bool
all_digits [] = true
all_digits (b ∷ bs) = digit b && all_digits bs

-- the number v with these digits behind it
unfoldable pub value : ℕ → List ℕ → ℕ
value v [] = v
value v (b ∷ bs) = value (v * 10 + (b - 48)) bs

-- a zero in front of others; one that stands alone is a number
unfoldable pub leading_zero : List ℕ → Bool
leading_zero [] = false
leading_zero (b ∷ []) = false
leading_zero (b ∷ c ∷ more) = eqb b 48

unfoldable pub plain : List ℕ → Bool
plain word = ltb 0 (length word) && (all_digits word && (not (leading_zero word) && leb (value 0 word) top_number))

unfoldable pub decimal_of : List ℕ → Option ℕ
decimal_of word = cond (plain word) (Some (value 0 word)) None

-- ---- digits alone, as a loop goes over them

-- the number v with these bytes behind it, where they are digits and it is no greater
unfoldable pub digits_of : ℕ → List ℕ → Option ℕ
digits_of v word = cond (all_digits word && leb (value v word) top_number) (Some (value v word)) None
