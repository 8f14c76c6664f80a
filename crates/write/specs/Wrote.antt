-- What the writing functions say (document 01, "The lent tables"): the entries that a table has afterwards, and that the places behind them
-- stay. Assumes nothing.
use Rattle.std.specs.Prelude.{List, ◌≡◌, ℕ, ◌≤◌, ◌<◌, length}
use Rattle.rule.specs.Entry.{Entry}
use Rattle.tables.specs.Table.{number_in, beside_in}
use Rattle.meaning.specs.Meaning.{entries_in}

-- the first n places of a table are these entries, and every later place is as it was
pub record WroteEntries (before after : List ℕ) (n : ℕ) (es : List Entry) : Type 0 where
  pub size : length after ≡ length before
  pub entries : entries_in after n ≡ es
  pub number : (i : ℕ) → n ≤ i → number_in after i ≡ number_in before i
  pub beside : (i : ℕ) → n ≤ i → beside_in after i ≡ beside_in before i

-- x is not among the first m numbers, and `at` is its place: those before it are lower, the others greater
pub record Place (number : ℕ → ℕ) (m x at : ℕ) : Type 0 where
  pub within : at ≤ m
  pub below : (i : ℕ) → i < at → number i < x
  pub above : (i : ℕ) → at ≤ i → i < m → x < number i

-- the first m numbers rise strictly
pub record Climbs (number : ℕ → ℕ) (m : ℕ) : Type 0 where
  pub up : (i l : ℕ) → i < l → l < m → number i < number l
