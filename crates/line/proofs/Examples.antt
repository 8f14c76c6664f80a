-- What some lines mean, by computation. Assumes nothing.
use mathlib.Core.List.{List, [], ◌∷◌}
use mathlib.Core.Path.{◌≡◌, refl}
use Rattle.std.specs.Prelude.{Option, Some, None}
use Prim.Native.Nat.{ℕ}
use Rattle.ring.specs.Scheme.{known}
use Rattle.rule.specs.declared.Call.{Call}
use Rattle.rule.specs.declared.Call.TheVariants.{Add, Remove, Set, Enrol, Withdraw, Find}
use Rattle.line.specs.Decimal.{digit, all_digits, value, leading_zero, plain, decimal_of}
use Rattle.line.specs.Line.{onto, words, letter_of, with_one, with_two, said, meaning_of, following, known_or, named, scheme_word, scheme_of}

-- a line, and what it means
pub record Example : Type 0 where
  pub bytes : List ℕ
  pub means : Option Call

pub meanings : List Example → List (Option Call)
meanings [] = []
meanings (e ∷ es) = meaning_of e.bytes ∷ meanings es

pub expected : List Example → List (Option Call)
expected [] = []
expected (e ∷ es) = e.means ∷ expected es

pub examples : List Example
examples =
    -- `a 10 1`
    record { bytes = 97 ∷ 32 ∷ 49 ∷ 48 ∷ 32 ∷ 49 ∷ []; means = Some (Add (record { 0 = 10 }) 1) }
    -- `r 20`
    ∷ record { bytes = 114 ∷ 32 ∷ 50 ∷ 48 ∷ []; means = Some (Remove (record { 0 = 20 })) }
    -- `s 10 0`
    ∷ record { bytes = 115 ∷ 32 ∷ 49 ∷ 48 ∷ 32 ∷ 48 ∷ []; means = Some (Set (record { 0 = 10 }) 0) }
    -- `e 0`, `w 3`, `f 4294967295`
    ∷ record { bytes = 101 ∷ 32 ∷ 48 ∷ []; means = Some (Enrol (record { 0 = 0 })) }
    ∷ record { bytes = 119 ∷ 32 ∷ 51 ∷ []; means = Some (Withdraw (record { 0 = 3 })) }
    ∷ record {
      bytes = 102 ∷ 32 ∷ 52 ∷ 50 ∷ 57 ∷ 52 ∷ 57 ∷ 54 ∷ 55 ∷ 50 ∷ 57 ∷ 53 ∷ [];
      means = Some
          (Find (record { 0 = 4294967295 }));
    }
    -- `f 4294967296`
    ∷ record { bytes = 102 ∷ 32 ∷ 52 ∷ 50 ∷ 57 ∷ 52 ∷ 57 ∷ 54 ∷ 55 ∷ 50 ∷ 57 ∷ 54 ∷ []; means = None }
    -- a leading zero: `e 05`, `e 00`
    ∷ record { bytes = 101 ∷ 32 ∷ 48 ∷ 53 ∷ []; means = None }
    ∷ record { bytes = 101 ∷ 32 ∷ 48 ∷ 48 ∷ []; means = None }
    -- two spaces, in front and between: `e  5`, `a 10  1`
    ∷ record { bytes = 101 ∷ 32 ∷ 32 ∷ 53 ∷ []; means = None }
    ∷ record { bytes = 97 ∷ 32 ∷ 49 ∷ 48 ∷ 32 ∷ 32 ∷ 49 ∷ []; means = None }
    -- a space at the start and at the end: ` e 5`, `e 5 `
    ∷ record { bytes = 32 ∷ 101 ∷ 32 ∷ 53 ∷ []; means = None }
    ∷ record { bytes = 101 ∷ 32 ∷ 53 ∷ 32 ∷ []; means = None }
    -- numbers too few or too many: `a 10`, `e 5 1`, `a 10 1 1`, `e `, `e`, the empty line
    ∷ record { bytes = 97 ∷ 32 ∷ 49 ∷ 48 ∷ []; means = None }
    ∷ record { bytes = 101 ∷ 32 ∷ 53 ∷ 32 ∷ 49 ∷ []; means = None }
    ∷ record { bytes = 97 ∷ 32 ∷ 49 ∷ 48 ∷ 32 ∷ 49 ∷ 32 ∷ 49 ∷ []; means = None }
    ∷ record { bytes = 101 ∷ 32 ∷ []; means = None }
    ∷ record { bytes = 101 ∷ []; means = None }
    ∷ record { bytes = []; means = None }
    -- `e 5` and a carriage return, `e +5`, `E 5`, `ee 5`
    ∷ record { bytes = 101 ∷ 32 ∷ 53 ∷ 13 ∷ []; means = None }
    ∷ record { bytes = 101 ∷ 32 ∷ 43 ∷ 53 ∷ []; means = None }
    ∷ record { bytes = 69 ∷ 32 ∷ 53 ∷ []; means = None }
    ∷ record { bytes = 101 ∷ 101 ∷ 32 ∷ 53 ∷ []; means = None }
    ∷ []

pub examples_hold : meanings examples ≡ expected examples
unfolding examples meanings expected meaning_of words onto said letter_of with_one with_two decimal_of plain digit all_digits
    value leading_zero
examples_hold = refl

-- ---- first lines: `scheme 0`, `scheme 1`, `scheme 3`, `scheme 01`, `scheme  1`, `scheme`, `scheme 1` and a carriage return

pub schemes : List (List ℕ) → List (Option ℕ)
schemes [] = []
schemes (l ∷ ls) = scheme_of l ∷ schemes ls

pub scheme : List ℕ → List ℕ
scheme more = 115 ∷ 99 ∷ 104 ∷ 101 ∷ 109 ∷ 101 ∷ more

pub schemes_hold : schemes (scheme (32 ∷ 48 ∷ []) ∷ scheme (32 ∷ 49 ∷ []) ∷ scheme (32 ∷ 51 ∷ []) ∷ scheme
    (32 ∷ 48 ∷ 49 ∷ []) ∷ scheme (32 ∷ 32 ∷ 49 ∷ []) ∷ scheme [] ∷ scheme (32 ∷ 49 ∷ 13 ∷ []) ∷ [])
    ≡ (Some 0 ∷ Some 1 ∷ None ∷ None ∷ None ∷ None ∷ None ∷ [])
unfolding schemes scheme scheme_of scheme_word following named known_or known decimal_of plain digit all_digits value
    leading_zero
schemes_hold = refl
