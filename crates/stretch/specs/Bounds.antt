-- A stretch as the two indices that bound it (document 01, "Sheet, balance, tally"). Assumes nothing.
use Rattle.std.specs.Prelude.{◌≡◌, ℕ, ◌-◌, ◌≤◌}
use Rattle.rule.specs.Sheet.{Stretch}

-- they bound that part of a sheet with so many numbers
pub record Bounds (part : Stretch) (size from to : ℕ) : Type 0 where
  pub order : from ≤ to
  pub inside : to ≤ size
  pub start : from ≡ part.start
  pub len : to - from ≡ part.len
