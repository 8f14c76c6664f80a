-- What the test of a table's shape tells, at the place where its numbers end.
--   shape_ends        where a table has that shape, its numbers end behind the entries
--   counted           it does hold there
--   edge_shape, table_edge    where the numbers could end alone, it is as well tested as at the count of places in use
--   wrong_relays, wrong_tablets, both_right   two tables are wrong by the one shape or the other, and else right as they are placed
-- Assumes nothing.
use mathlib.Core.Bool.{true, false, ◌&&◌, and-false}
use mathlib.Core.List.{List}
use mathlib.Core.Path.{◌≡◌, sym, ap, ap₂, ◌∙◌}
use Prim.Native.Nat.{ℕ}
use native.Mathlib.Omega.{arith}
use Rattle.ring.specs.Most.{most_relays, most_tablets, most_limit, top_number}
use Rattle.ring.specs.Scheme.{Positions}
use Rattle.ring.proofs.Tests.{split, and_right}
use Rattle.tables.specs.Table.{places_of, number_in, beside_in}
use Rattle.tables.specs.Shape.{used, shape, used_in, fits_in, table_shape}
use Rattle.tables.specs.Placement.{placed, right}
use Rattle.tables.proofs.Shaped.{shape_within, shape_entry, shape_rest, shape_used, in_use}
use Rattle.entries.specs.Entries.{Ends, NotAsItMust, Counted, Both}

pub shape_ends : (top : ℕ) (number beside : ℕ → ℕ) (n places : ℕ) → shape top number beside n places ≡ true
    → Ends number places n
shape_ends top number beside n places e =
    record {
      within = shape_within top number beside n places e;
      numbered = λ i h. omega (arith, (shape_entry top number beside n places e i h).0);
      unnumbered = λ i h l. (shape_rest top number beside n places e i h l).0;
    }

-- where the numbers could end at n alone, the shape is as well tested there as at the count of places in use
pub edge_shape : (top : ℕ) (number beside : ℕ → ℕ) (places : ℕ) {n : ℕ} → ((k : ℕ) → Ends number places k → n ≡ k)
    → shape top number beside n places ≡ shape top number beside (used number places) places
edge_shape top number beside places {n} only =
    split (shape top number beside n places)
    (λ s. ap (λ k. shape top number beside k places) (sym (shape_used top number beside n places s)))
    (λ e. split (shape top number beside (used number places) places)
    (λ s. ap (λ k. shape top number beside k places) (only _ (shape_ends top number beside _ places s)))
    (λ s. e ∙ sym s))

module _ (most top : ℕ) (t : List ℕ) where
  -- at its count of places in use a table of that shape has its entries
  the_shape : (n : ℕ) → table_shape most top t n ≡ true → shape top (number_in t) (beside_in t) n (places_of t) ≡ true
  unfolding table_shape
  the_shape n e = and_right (fits_in most t) _ e

  pub counted : {n : ℕ} → table_shape most top t n ≡ true → Counted most top t n
  unfolding used_in
  counted {n} e =
      record {
        right = e;
        count = sym (shape_used top (number_in t) (beside_in t) n (places_of t) (the_shape n e));
      }

  -- and so is the table's
  pub table_edge : {n : ℕ} → ((k : ℕ) → Ends (number_in t) (places_of t) k → n ≡ k)
      → table_shape most top t n ≡ table_shape most top t (used_in t)
  unfolding table_shape used_in
  table_edge only = ap (λ b. fits_in most t && b) (edge_shape top (number_in t) (beside_in t) (places_of t) only)

-- ---- the two tables

pub wrong_relays : (rs ts : List ℕ) → NotAsItMust most_relays most_limit rs → (p : Positions) → right p rs ts ≡ false
unfolding right
wrong_relays rs ts e p = rw e

pub wrong_tablets : (rs ts : List ℕ) → NotAsItMust most_tablets top_number ts → (p : Positions) → right p rs ts ≡ false
unfolding right
wrong_tablets rs ts e p = rw e (and-false (table_shape most_relays most_limit rs (used_in rs)))

module _ {rs ts : List ℕ} {n m : ℕ} (r : Counted most_relays most_limit rs n) (t : Counted most_tablets top_number ts m) where
  pub both_right : Both rs ts (record { n = n; m = m })
  unfolding right
  both_right = record {
    relays_fit = in_use most_limit r.count r.right;
    tablets_fit = in_use top_number t.count t.right;
    relays = r.count;
    tablets = t.count;
    test = λ p. rw (
      ap (table_shape most_relays most_limit rs) (sym r.count) ∙ r.right,
      ap (table_shape most_tablets top_number ts) (sym t.count) ∙ t.right,
    ) (ap₂ (placed p rs ts) r.count t.count);
  }
