-- Of all refusals that apply to a sheet the lowest number is given (document 01, "Replies").
--   sheet_lowest
-- Assumes nothing.
use mathlib.Core.List.{List}
use Prim.Native.Nat.{ℕ}
use native.Mathlib.Omega.{arith}
use Rattle.rule.specs.Refusals.{number_of}
use Rattle.rule.specs.Applies.{Lowest}
use Rattle.rule.proofs.Lowest.{lowest_number}
use Rattle.meaning.specs.Meaning.{tables_bars}
use Rattle.sheet.specs.Promise.{sheet_bars, sheet_refusal}

pub sheet_lowest : (s : ℕ) (rs ts lent : List ℕ) → Lowest number_of (sheet_bars s rs ts lent) (sheet_refusal s rs ts lent)
unfolding sheet_refusal tables_bars
sheet_lowest s rs ts lent = lowest_number (sheet_bars s rs ts lent) (omega arith, (omega arith, (omega arith, tt)))
