-- What every call starts from (document 01, "Replies", "The lent tables"): the first two refusals, and what the check of right tables has found.
-- Assumes nothing.
use Rattle.std.specs.Prelude.{true, List, ◌≡◌, ℕ}
use Rattle.ring.specs.Scheme.{known, positions}
use Rattle.tables.specs.Table.{RelaysIn, TabletsIn}
use Rattle.tables.specs.Placement.{placed, right}
use Rattle.tables.specs.Shape.{relays_used, tablets_used}
use Rattle.survey.specs.declared.Survey.{Survey}
use Rattle.survey.specs.Seats.{Surveyed}
use Rattle.meaning.specs.Meaning.{tables_right, Words}

-- nothing is refused before the placement is looked at: the tables are right as they are placed
pub record NotBarred (scheme : ℕ) (rs ts : List ℕ) (n m : ℕ) : Type 0 where
  pub relays_fit : RelaysIn rs n
  pub tablets_fit : TabletsIn ts m
  pub known : known scheme ≡ true
  pub relays : n ≡ relays_used rs
  pub tablets : m ≡ tablets_used ts
  pub test : placed (positions scheme) rs ts n m ≡ right (positions scheme) rs ts

-- the scheme is known and the tables are right: n relays and m tablets, and what was learnt of them
pub record Start (scheme : ℕ) (rs ts : List ℕ) (n m : ℕ) (s : Survey) : Type 0 where
  pub known : known scheme ≡ true
  pub right : tables_right scheme rs ts ≡ true
  pub relays : n ≡ relays_used rs
  pub tablets : m ≡ tablets_used ts
  pub surveyed : Surveyed (positions scheme) rs ts n m s
  pub relay_words : Words rs
  pub tablet_words : Words ts
