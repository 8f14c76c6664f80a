-- How many entries a lent table has, where it is as it must be (document 01, "The lent tables"). Assumes nothing.
use Rattle.std.specs.Prelude.{true, false, List, Option, ◌≡◌, ℕ, ◌≤◌, ◌<◌, MatchOption}
use Rattle.ring.specs.Scheme.{Positions}
use Rattle.tables.specs.Table.{RelaysIn, TabletsIn}
use Rattle.tables.specs.Shape.{used_in, table_shape}
use Rattle.tables.specs.Placement.{placed, right}
use Rattle.entries.specs.declared.Counts.{Counts}

-- of so many places the first n have a number, and no other has
pub record Ends (number : ℕ → ℕ) (places n : ℕ) : Type 0 where
  pub within : n ≤ places
  pub numbered : (i : ℕ) → i < n → 0 < number i
  pub unnumbered : (i : ℕ) → n ≤ i → i < places → number i ≡ 0

-- ---- a table

abbrev pub NotAsItMust : ℕ → ℕ → List ℕ → Type 0
NotAsItMust most top t = table_shape most top t (used_in t) ≡ false

pub record Counted (most top : ℕ) (t : List ℕ) (n : ℕ) : Type 0 where
  pub right : table_shape most top t n ≡ true
  pub count : n ≡ used_in t

-- ---- both tables

-- both are as they must be, with n relays and m tablets, and then right as they are placed
pub record Both (rs ts : List ℕ) (c : Counts) : Type 0 where
  pub relays_fit : RelaysIn rs c.n
  pub tablets_fit : TabletsIn ts c.m
  pub relays : c.n ≡ used_in rs
  pub tablets : c.m ≡ used_in ts
  pub test : (p : Positions) → placed p rs ts c.n c.m ≡ right p rs ts

-- or one is not
abbrev pub ShapesOf : List ℕ → List ℕ → Option Counts → Type 0
ShapesOf rs ts found = MatchOption found ((p : Positions) → right p rs ts ≡ false) (λ c. Both rs ts c)
