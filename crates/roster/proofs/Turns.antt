-- Of all refusals that apply to a reading the first in the order 10, 1, 12, 11 is given (document 01, "Replies").
--   reading_lowest
-- Assumes nothing.
use mathlib.Core.List.{List}
use mathlib.Core.Path.{refl}
use Prim.Native.Nat.{ℕ}
use native.Mathlib.Omega.{arith}
use Rattle.rule.specs.Refusals.{is_done}
use Rattle.rule.specs.Applies.{Lowest}
use Rattle.rule.proofs.Lowest.{lowest_first}
use Rattle.roster.specs.Reading.{reading_bars, refusal, ahead_in, turn_of}

pub reading_lowest : (b rs ts : List ℕ) → Lowest turn_of (reading_bars b rs ts) (refusal b rs ts)
unfolding refusal ahead_in is_done
reading_lowest b rs ts =
    lowest_first turn_of (reading_bars b rs ts) (omega arith, (omega arith, (omega arith, (omega arith, tt))))
    (refl, (refl, (refl, (refl, tt))))
