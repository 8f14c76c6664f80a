-- The place of a number among the entries of a table (document 01, "The lent tables"): its own where it is there, and where it is not the
-- place that it would have. Assumes nothing.
use Rattle.std.specs.Prelude.{Bool, not, List, [], ◌∷◌, ◌≡◌, ℕ, ◌≤◌, ◌<◌, eqb}
use Rattle.rule.specs.declared.Refusal.{Refusal}
use Rattle.rule.specs.declared.Refusal.TheVariants.{NumberZero, NotThere}
use Rattle.rule.specs.Entry.{has}
use Rattle.rule.specs.Refusals.{bar, first_bar}
use Rattle.tables.specs.Table.{number_in}
use Rattle.meaning.specs.Meaning.{entries_in}

-- of the first n numbers those before `at` are below x, and those from it on are not
pub record Spot (number : ℕ → ℕ) (n x at : ℕ) : Type 0 where
  pub within : at ≤ n
  pub below : (i : ℕ) → i < at → number i < x
  pub from : (i : ℕ) → at ≤ i → i < n → x ≤ number i

abbrev pub there_in : List ℕ → ℕ → ℕ → Bool
there_in t n x = has (entries_in t n) x

-- that place in a table, and whether x is there
pub record Sought (t : List ℕ) (n x : ℕ) (is : Bool) (at : ℕ) : Type 0 where
  pub spot : Spot (number_in t) n x at
  pub there : there_in t n x ≡ is

-- the refusals of a call about a number that may not be zero and must be there (document 01, "Replies")
unfoldable pub missing : ℕ → Bool → Refusal
missing number there = first_bar (bar (eqb number 0) NumberZero ∷ bar (not there) NotThere ∷ [])
