-- What each place of a table gives once one place is written (document 01, "The lent tables"). Said once for both tables, over the number at a
-- place and what stands beside it (a relay's limit, a tablet's relay). Assumes nothing.
use Rattle.std.specs.Prelude.{List, ◌≡◌, ℕ, length}

-- place k is x with v beside it, and every other place is as it was
pub record SetPlace (number_at beside_at : List ℕ → ℕ → ℕ) (before after : List ℕ) (k x v : ℕ) : Type 0 where
  pub size : length after ≡ length before
  pub number : number_at after k ≡ x
  pub beside : beside_at after k ≡ v
  pub numbers : (i : ℕ) → (i ≡ k → ⊥) → number_at after i ≡ number_at before i
  pub besides : (i : ℕ) → (i ≡ k → ⊥) → beside_at after i ≡ beside_at before i

-- v stands beside the number at place k; every number stays, and so does what stands beside the others
pub record SetBeside (number_at beside_at : List ℕ → ℕ → ℕ) (before after : List ℕ) (k v : ℕ) : Type 0 where
  pub size : length after ≡ length before
  pub beside : beside_at after k ≡ v
  pub numbers : (i : ℕ) → number_at after i ≡ number_at before i
  pub besides : (i : ℕ) → (i ≡ k → ⊥) → beside_at after i ≡ beside_at before i
