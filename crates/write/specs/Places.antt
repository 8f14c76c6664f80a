-- What each place of a table gives once an entry is taken out (document 01, "The lent tables"). Said once
-- for both tables, over the number at a place and what stands beside it (a relay's limit, a tablet's relay). Assumes nothing.
use Rattle.std.specs.Prelude.{List, ◌≡◌, ℕ, ◌≤◌, ◌<◌, length}
use Rattle.rule.specs.Entry.{Entry}
use Rattle.meaning.specs.Meaning.{places}

-- the first k places are these entries, place k is zeros, and every later place is as it was
pub record TookOut (number_at beside_at : List ℕ → ℕ → ℕ) (before after : List ℕ) (k : ℕ) (es : List Entry) : Type 0 where
  pub size : length after ≡ length before
  pub entries : places (number_at after) (beside_at after) k ≡ es
  pub number : number_at after k ≡ 0
  pub beside : beside_at after k ≡ 0
  pub numbers : (i : ℕ) → k < i → number_at after i ≡ number_at before i
  pub besides : (i : ℕ) → k < i → beside_at after i ≡ beside_at before i

-- of so many places, each behind the first m is zeros
pub record Zeros (number beside : ℕ → ℕ) (m most : ℕ) : Type 0 where
  pub numbers : (i : ℕ) → m ≤ i → i < most → number i ≡ 0
  pub besides : (i : ℕ) → m ≤ i → i < most → beside i ≡ 0
