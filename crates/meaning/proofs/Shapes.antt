-- A table's shape, as the test of every place and as facts.
--   shape_is, shape_from     the loops' test of a shape
--   rest_is, rest_from       zeros behind the entries
-- Assumes nothing.
use mathlib.Core.Bool.{true, ◌||◌}
use mathlib.Core.Path.{◌≡◌}
use Prim.Native.Nat.{ℕ, zero, suc, ◌+◌, ◌-◌, ◌^◌, ◌≤◌, ◌<◌}
use native.Mathlib.Omega.{arith}
use borrow.Author.Tests.{ltb-false, eqb-true, eqb-false, lt-ltb, le-ltb, le-leb}
use lib.Dec.{eqb, ltb}
use Rattle.ring.proofs.Tests.{split, and_left, and_right}
use Rattle.tables.specs.Shape.{previous, entry_right, unused, entry_at, unused_at, shape}
use Rattle.tables.proofs.Loops.{all_at, all_of}
use Rattle.tables.proofs.Shaped.{shape_entry, shape_rest}
use Rattle.meaning.specs.Meaning.{rest_unused}
use Rattle.meaning.specs.Ascending.{Ascending}

-- ---- zeros behind the entries

unused_is : (x v : ℕ) → unused x v ≡ true → (x ≡ 0) × (v ≡ 0)
unfolding unused
unused_is x v e = (eqb-true x 0 (and_left (eqb x 0) (eqb v 0) e), eqb-true v 0 (and_right (eqb x 0) (eqb v 0) e))

module _ (f b : ℕ → ℕ) (n most : ℕ) where
  pub rest_is : rest_unused f b n most ≡ true → (i : ℕ) → n ≤ i → i < most → (f i ≡ 0) × (b i ≡ 0)
  unfolding rest_unused
  rest_is e i h k =
      unused_is (f i) (b i) (rw (le-ltb i n h) at (all_at (λ i. ltb i n || unused (f i) (b i)) most i e k))

  pub rest_from : ((i : ℕ) → n ≤ i → i < most → (f i ≡ 0) × (b i ≡ 0)) → rest_unused f b n most ≡ true
  unfolding rest_unused unused
  rest_from z =
      all_of (λ i. ltb i n || unused (f i) (b i)) most (λ i k.
      split (ltb i n) (λ s. rw s) (λ s. let h : n ≤ i = ltb-false i n s in rw (s, (z i h k).0, (z i h k).1)))

-- ---- the shape

-- n entries that come first, with at most `top` beside each, and zeros in every later place of so many
pub record Shaped (top : ℕ) (f b : ℕ → ℕ) (n most : ℕ) : Type 0 where
  pub numbers : Ascending f n
  pub beside : (i : ℕ) → i < n → b i ≤ top
  pub rest : (i : ℕ) → n ≤ i → i < most → (f i ≡ 0) × (b i ≡ 0)

-- numbers that are each above the one before rise
rises : (f : ℕ → ℕ) (n : ℕ) → ((i : ℕ) → i < n → previous f i < f i) → (i l : ℕ) → i < l → l < n → f i < f l
unfolding previous
rises f n g i zero h k = absurd (omega arith)
rises f n g i (suc l) h k =
    split (eqb i l)
    (λ s. rw (eqb-true i l s) (g (suc l) k))
    (λ s. omega (arith, rises f n g i l (omega (arith, eqb-false i l s)) (omega arith), g (suc l) k))

module _ (top : ℕ) (f b : ℕ → ℕ) (n most : ℕ) where
  pub shape_is : ((i : ℕ) → f i < 2 ^ 32) → shape top f b n most ≡ true → Shaped top f b n most
  shape_is w e =
      let up : (i : ℕ) → i < n → previous f i < f i = λ i k. (shape_entry top f b n most e i k).0 in
      record {
        numbers = record { up = rises f n up; numbered = λ i k. omega (arith, up i k); small = λ i k. w i };
        beside = λ i k. (shape_entry top f b n most e i k).1;
        rest = shape_rest top f b n most e;
      }

  pub shape_from : n ≤ most → Shaped top f b n most → shape top f b n most ≡ true
  unfolding shape entry_at unused_at entry_right unused
  shape_from w s =
      rw (
        le-leb n most w,
        all_of (entry_at top f b) n (λ i h. rw (
          lt-ltb (previous f i) (f i) (above i h),
          le-leb (b i) top
              (s.beside i h),
        )),
        all_of (unused_at f b n) (most - n) (λ i h. rw
            ((s.rest (n + i) (omega arith) (omega arith)).0, (s.rest (n + i) (omega arith) (omega arith)).1)),
      )
    where
      above : (i : ℕ) → i < n → previous f i < f i
      above zero h = unfold previous in (s.numbers.numbered 0 h)
      above (suc i) h = unfold previous in (s.numbers.up i (suc i) (omega arith) h)
