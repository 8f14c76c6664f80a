-- What the tests of `Rule` come to, as facts (document 01, "The ring", "The lent tables"): who is in a table, numbers that rise, right tables.
-- The laws `right_is` and `right_from` say that the tests and the facts are the same. Assumes nothing.
use Rattle.std.specs.Prelude.{true, List, [], ◌∷◌, ◌⊎◌, ◌≡◌, ℕ, ◌^◌, ◌≤◌, ◌<◌, length}
use Rattle.ring.specs.Scheme.{Positions}
use Rattle.ring.specs.Clockwise.{key}
use Rattle.rule.specs.Entry.{Entry, numbers, total}
use Rattle.rule.specs.Rule.{Ring, limits_fit}
use Rattle.rule.specs.Rooms.{fill}
use Rattle.rule.specs.Stability.{Rising}

-- e is one of the entries
abbrev pub Among : Entry → List Entry → Type 0
Among e [] = ⊥
Among e (x ∷ xs) = (e ≡ x) ⊎ Among e xs

-- no number stands twice
abbrev pub Distinct : List Entry → Type 0
Distinct [] = Unit {0}
Distinct (c ∷ cs) = ((e : Entry) → Among e cs → c.number ≡ e.number → ⊥) × Distinct cs

-- nobody stands ahead of one with a lesser key
abbrev pub Sorted : (ℕ → ℕ) → List Entry → Type 0
Sorted k [] = Unit {0}
Sorted k (e ∷ es) = ((x : Entry) → Among x es → k e.number ≤ k x.number) × Sorted k es

-- the numbers of the entries are 32-bit numbers
abbrev pub Small : List Entry → Type 0
Small l = (x : Entry) → Among x l → x.number < 2 ^ 32

-- a table whose numbers are 32-bit numbers from 1 that rise
pub record Table (es : List Entry) : Type 0 where
  pub up : Rising 0 (numbers es)
  pub small : Small es

-- right tables: the limits suffice, and beside every tablet stands the rule's relay
pub record Right (p : Positions) (g : Ring) : Type 0 where
  pub relays : Table g.relays
  pub limits : limits_fit g.relays ≡ true
  pub tablets : Table g.tablets
  pub enough : length g.tablets ≤ total g.relays
  pub ruled : g.tablets ≡ fill (key p) g.relays (numbers g.tablets)
