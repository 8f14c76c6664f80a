-- Laws of a table's shape, over either table's numbers.
--   used_most                               how many places are in use
--   previous_more, entry_more, unused_more  one more place is tested
--   shape_within, shape_entry, shape_rest   what a shape says of each place
--   shape_used                              a table of that shape has as many places in use as entries
--   in_use                                  the entries of a table that is as it must be can be in use
-- Assumes nothing.
use mathlib.Core.Bool.{Bool, true, false, ◌&&◌, cond}
use mathlib.Core.List.{List}
use mathlib.Core.Path.{◌≡◌, refl, ap, ◌∙◌}
use Prim.Native.Nat.{ℕ, zero, suc, ◌+◌, ◌-◌, ◌≤◌, ◌<◌}
use native.Mathlib.Numerals.{add-one}
use native.Mathlib.Omega.{arith}
use borrow.Author.Tests.{ltb-true, leb-true, eqb-true, lt-ltb}
use lib.Dec.{eqb, ltb, leb}
use Rattle.ring.proofs.Tests.{and_left, and_right}
use Rattle.tables.specs.Table.{places_of, number_in, is_whole, InUse}
use Rattle.tables.specs.Shape.{all, used, previous, entry_right, unused, entry_at, unused_at, shape, used_in, fits_in, table_shape}
use Rattle.tables.proofs.Loops.{all_step, all_at}

module _ (number : ℕ → ℕ) where
  pub used_most : (i : ℕ) → used number i ≤ i
  unfolding used
  used_most zero = omega arith
  used_most (suc i) = omega (arith, used_most i, one (ltb 0 (number i)))
    where
      one : (b : Bool) → cond b 1 0 ≤ 1
      one true = omega arith
      one false = omega arith

  pub previous_more : (i : ℕ) {x : ℕ} → x ≡ number i → x ≡ previous number (i + 1)
  unfolding previous
  previous_more i p = rw add-one p

  pub entry_more : (top : ℕ) (beside : ℕ → ℕ) (i : ℕ) {before x y : ℕ} {ok b r : Bool}
      → ok ≡ all (entry_at top number beside) i → before ≡ previous number i
      → x ≡ number i → y ≡ beside i → b ≡ entry_right top before x y → r ≡ (ok && b)
      → r ≡ all (entry_at top number beside) (i + 1)
  unfolding entry_at
  entry_more top beside i p d ex ey e q = all_step (entry_at top number beside) p (e ∙ rw (d, ex, ey)) q

  pub unused_more : (beside : ℕ → ℕ) (n i : ℕ) {x y : ℕ} {ok b r : Bool} → ok ≡ all (unused_at number beside n) i
      → x ≡ number (n + i) → y ≡ beside (n + i) → b ≡ unused x y → r ≡ (ok && b) → r ≡ all (unused_at number beside n)
      (i + 1)
  unfolding unused_at
  unused_more beside n i p ex ey e q = all_step (unused_at number beside n) p (e ∙ rw (ex, ey)) q

-- ---- what a shape says of each place

module _ (top : ℕ) (number beside : ℕ → ℕ) (n places : ℕ) where
  pub shape_within : shape top number beside n places ≡ true → n ≤ places
  unfolding shape
  shape_within e =
      leb-true n places (and_left (leb n places)
      (all (entry_at top number beside) n && all (unused_at number beside n) (places - n)) e)

  tests : shape top number beside n places ≡ true
      → (all (entry_at top number beside) n && all (unused_at number beside n) (places - n)) ≡ true
  unfolding shape
  tests e =
      and_right (leb n places) (all (entry_at top number beside) n && all (unused_at number beside n) (places - n)) e

  pub shape_entry : shape top number beside n places ≡ true → (i : ℕ) → i < n → (previous number i < number i)
      × (beside i ≤ top)
  unfolding entry_at entry_right
  shape_entry e i h =
      let k₁ : Bool = ltb (previous number i) (number i) in
      let k₂ : Bool = leb (beside i) top in
      let t : (k₁ && k₂) ≡ true = all_at (entry_at top number beside) n i
      (and_left (all (entry_at top number beside) n) (all (unused_at number beside n) (places - n)) (tests e)) h in
      (ltb-true (previous number i) (number i) (and_left k₁ k₂ t), leb-true (beside i) top (and_right k₁ k₂ t))

  pub shape_rest : shape top number beside n places ≡ true → (i : ℕ) → n ≤ i → i < places → (number i ≡ 0)
      × (beside i ≡ 0)
  unfolding unused_at unused
  shape_rest e i h l =
      let s : n + (i - n) ≡ i = omega arith in
      rw s at (here (i - n) (omega arith))
    where
      here : (d : ℕ) → d < places - n → (number (n + d) ≡ 0) × (beside (n + d) ≡ 0)
      here d k =
          let k₁ : Bool = eqb (number (n + d)) 0 in
          let k₂ : Bool = eqb (beside (n + d)) 0 in
          let t : (k₁ && k₂) ≡ true = all_at (unused_at number beside n) (places - n) d
          (and_right (all (entry_at top number beside) n) (all (unused_at number beside n) (places - n)) (tests e)) k in
          (eqb-true (number (n + d)) 0 (and_left k₁ k₂ t), eqb-true (beside (n + d)) 0 (and_right k₁ k₂ t))

  -- a table of that shape has as many places in use as entries
  pub shape_used : shape top number beside n places ≡ true → used number places ≡ n
  unfolding used
  shape_used e =
      omega (
        arith,
        entries n (λ i h. omega (arith, (shape_entry e i h).0)),
        behind (places - n)
            (λ i h l. (shape_rest e i h (omega (arith, end))).0),
        ap (used number) end,
      )
    where
      end : n + (places - n) ≡ places
      end = omega (arith, shape_within e)

      entries : (k : ℕ) → ((i : ℕ) → i < k → 0 < number i) → used number k ≡ k
      entries zero f = refl
      entries (suc k) f =
          rw (entries k (λ i h. f i (omega arith)), lt-ltb 0 (number k) (f k (omega arith))) (omega arith)

      behind : (d : ℕ) → ((i : ℕ) → n ≤ i → i < n + d → number i ≡ 0) → used number (n + d) ≡ used number n
      behind zero f = let z : n + 0 ≡ n = omega arith in ap (used number) z
      behind (suc d) f =
          let z : n + suc d ≡ suc (n + d) = omega arith in
          ap (used number) z ∙ rw (f (n + d) (omega arith) (omega arith))
          (omega (arith, behind d (λ i h l. f i h (omega arith))))

-- the entries of a table that is as it must be can be in use
pub in_use : {most : ℕ} (top : ℕ) {t : List ℕ} {n : ℕ} → n ≡ used_in t → table_shape most top t n ≡ true → InUse most t n
unfolding used_in table_shape fits_in
in_use {most} top {t} {n} u e =
    let few = leb-true (places_of t) most (and_right (is_whole t) _ (and_left _ _ e)) in
    record {
      few = omega (arith, used_most (number_in t) (places_of t));
      there = omega (arith, used_most (number_in t) (places_of t));
    }
