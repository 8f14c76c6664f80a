-- The lines that `watch` reads (document 01, "A drill to prove"; docs/DECISIONS.md, reading 9): `a relay limit`, `r relay`, `s relay limit`,
-- `e tablet`, `w tablet`, `f tablet`, with single spaces, and nothing else. The first line is `scheme` and a scheme that there is.
-- Assumes nothing.
use Rattle.std.specs.Prelude.{Bool, ◌==◌, cond, List, [], ◌∷◌, Option, Some, None, ℕ, eqb}
use Rattle.ring.specs.Scheme.{known}
use Rattle.rule.specs.declared.Call.{Call}
use Rattle.rule.specs.declared.Call.TheVariants.{Add, Remove, Set, Enrol, Withdraw, Find}
use Rattle.line.specs.Decimal.{decimal_of}

-- ---- a line as its words

-- a space (32)
abbrev pub is_space : ℕ → Bool
is_space b = b == 32

-- one byte more in front of the first word
unfoldable pub onto : ℕ → List (List ℕ) → List (List ℕ)
onto b [] = (b ∷ []) ∷ []
onto b (w ∷ ws) = (b ∷ w) ∷ ws

-- the words between the spaces; between two spaces that stand together is an empty one
unfoldable pub words : List ℕ → List (List ℕ)
words [] = [] ∷ []
words (b ∷ bs) = cond (eqb b 32) ([] ∷ words bs) (onto b (words bs))

-- ---- calls

-- the letter that a word is; 0 is none
unfoldable pub letter_of : List ℕ → ℕ
letter_of [] = 0
letter_of (b ∷ []) = b
letter_of (b ∷ c ∷ more) = 0

-- `r` (114), `e` (101), `w` (119) and `f` (102) take one number
unfoldable pub with_one : ℕ → Option ℕ → Option Call
with_one letter None = None
with_one letter (Some n) =
    cond (eqb letter 114) (Some (Remove (record { 0 = n })))
    (cond (eqb letter 101) (Some (Enrol (record { 0 = n })))
    (cond (eqb letter 119) (Some (Withdraw (record { 0 = n })))
    (cond (eqb letter 102) (Some (Find (record { 0 = n }))) None)))

-- `a` (97) and `s` (115) take two
unfoldable pub with_two : ℕ → Option ℕ → Option ℕ → Option Call
with_two letter None limit = None
with_two letter (Some n) None = None
with_two letter (Some n) (Some limit) =
    cond (eqb letter 97) (Some (Add (record { 0 = n }) limit))
    (cond (eqb letter 115) (Some (Set (record { 0 = n }) limit)) None)

unfoldable pub said : List (List ℕ) → Option Call
said [] = None
said (w ∷ []) = None
said (w ∷ x ∷ []) = with_one (letter_of w) (decimal_of x)
said (w ∷ x ∷ y ∷ []) = with_two (letter_of w) (decimal_of x) (decimal_of y)
said (w ∷ x ∷ y ∷ z ∷ more) = None

unfoldable pub meaning_of : List ℕ → Option Call
meaning_of l = said (words l)

-- ---- the first line

-- what stands behind a beginning, in a line that begins so
unfoldable pub following : List ℕ → List ℕ → Option (List ℕ)
following [] l = Some l
following (p ∷ ps) [] = None
following (p ∷ ps) (b ∷ bs) = cond (eqb p b) (following ps bs) None

-- a number of a scheme that there is
unfoldable pub known_or : Option ℕ → Option ℕ
known_or None = None
known_or (Some n) = cond (known n) (Some n) None

unfoldable pub named : Option (List ℕ) → Option ℕ
named None = None
named (Some word) = known_or (decimal_of word)

-- `scheme` and a space
unfoldable pub scheme_word : List ℕ
scheme_word = 115 ∷ 99 ∷ 104 ∷ 101 ∷ 109 ∷ 101 ∷ 32 ∷ []

unfoldable pub scheme_of : List ℕ → Option ℕ
scheme_of l = named (following scheme_word l)
