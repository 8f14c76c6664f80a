-- The numbers of a relay table with one put in or taken out, place by place.
--   places_number                         two tables with the same entries have the same numbers
--   deleted_number                        one taken out: the numbers but for that place
--   inserted_number, inserted_here        one put in: the numbers at every place but that, and the new one there
-- Assumes nothing.
use mathlib.Core.Bool.{cond}
use mathlib.Core.List.{List, [], ◌∷◌}
use mathlib.Core.Path.{◌≡◌, refl, sym, ap, ◌∙◌}
use Prim.Native.Nat.{ℕ, zero, suc, ◌+◌, ◌-◌, ◌≤◌, ◌<◌}
use native.Mathlib.Numerals.{add-one}
use native.Mathlib.Omega.{arith}
use borrow.Author.Tests.{lt-ltb, le-ltb, eq-eqb, ne_eqb}
use lib.Dec.{eqb, ltb}
use Rattle.rule.specs.Entry.{Entry, insert, delete}
use Rattle.meaning.specs.Meaning.{places}
use Rattle.meaning.specs.Ascending.{Ascending}
use Rattle.meaning.proofs.Places.{next, places_cons}
use Rattle.meaning.proofs.Edits.{Inserted, insert_places, Deleted, delete_places}
use Rattle.ring_edit.specs.Shift.{skip}
use Rattle.ring_edit.proofs.Skips.{Skip, low, high, skip_low, skip_high, skip_cases, skip_below}

unfoldable first_number : List Entry → ℕ
first_number [] = 0
first_number (e ∷ es) = e.number

unfoldable others : List Entry → List Entry
others [] = []
others (e ∷ es) = es

pub places_number : (f b g c : ℕ → ℕ) (n : ℕ) → places f b n ≡ places g c n → (i : ℕ) → i < n → f i ≡ g i
unfolding first_number others
places_number f b g c zero e i h = absurd (omega arith)
places_number f b g c (suc n) e zero h = ap first_number (sym (places_cons f b n) ∙ e ∙ places_cons g c n)
places_number f b g c (suc n) e (suc i) h =
    places_number (next f) (next b) (next g) (next c) n (ap others (sym (places_cons f b n) ∙ e ∙ places_cons g c n)) i
    (omega arith)

-- ---- one taken out

module _ (f b g c : ℕ → ℕ) {n at : ℕ} (a : Ascending f (n + 1)) (within : at ≤ n) where
  pub deleted_number : places g c n ≡ delete (f at) (places f b (n + 1)) → (i : ℕ) → i < n → g i ≡ f (skip at i)
  deleted_number e = places_number g c (λ i. f (skip at i)) (λ i. b (skip at i)) n (e ∙ delete_places a closed)
    where
      closed : Deleted f b (λ i. f (skip at i)) (λ i. b (skip at i)) n at
      closed = record {
        fit = within;
        before = λ i h. (ap f (skip_low at i h), ap b (skip_low at i h));
        behind = λ i h k. (ap f (skip_high at i h ∙ add-one i), ap b (skip_high at i h ∙ add-one i));
      }

-- ---- one put in

-- x at place `at`
unfoldable with_one_lem : (ℕ → ℕ) → ℕ → ℕ → ℕ → ℕ
with_one_lem f at x i = cond (ltb i at) (f i) (cond (eqb i at) x (f (i - 1)))

module _ (f : ℕ → ℕ) (at x : ℕ) where
  one_before : (i : ℕ) → i < at → with_one_lem f at x i ≡ f i
  unfolding with_one_lem
  one_before i h = rw (lt-ltb i at h)

  one_here : with_one_lem f at x at ≡ x
  unfolding with_one_lem
  one_here = rw (le-ltb at at (omega arith), eq-eqb at at refl)

  one_behind : (i : ℕ) → at ≤ i → with_one_lem f at x (suc i) ≡ f i
  unfolding with_one_lem
  one_behind i h =
      let e : suc i - 1 ≡ i = omega arith in
      rw (le-ltb (suc i) at (omega arith), ne_eqb (suc i) at (λ (d : suc i ≡ at). omega arith)) (ap f e)

  one_other : (i : ℕ) → with_one_lem f at x (skip at i) ≡ f i
  one_other i = go (skip_cases at i)
    where
      go : Skip at i → with_one_lem f at x (skip at i) ≡ f i
      go (low h e) = ap (with_one_lem f at x) e ∙ one_before i h
      go (high h e) = ap (with_one_lem f at x) (e ∙ add-one i) ∙ one_behind i h

module _ (f b g c : ℕ → ℕ) {n at x : ℕ} (v : ℕ) (within : at ≤ n) (below : (i : ℕ) → i < at → f i < x)
    (above : (i : ℕ) → at ≤ i → i < n → x < f i)
    (e : places g c (n + 1) ≡ insert x v (places f b n)) where
  numbers : (i : ℕ) → i < n + 1 → g i ≡ with_one_lem f at x i
  numbers = places_number g c (with_one_lem f at x) (with_one_lem b at v) (n + 1) (e ∙ insert_places opened)
    where
      opened : Inserted f b (with_one_lem f at x) (with_one_lem b at v) n at x v
      opened = record {
        fit = within;
        less = below;
        more = above;
        before = λ i h. (one_before f at x i h, one_before b at v i h);
        here = (one_here f at x, one_here b at v);
        behind = λ i h k. (one_behind f at x i h, one_behind b at v i h);
      }

  pub inserted_number : (i : ℕ) → i < n → g (skip at i) ≡ f i
  inserted_number i h = numbers (skip at i) (skip_below at i n h) ∙ one_other f at x i

  pub inserted_here : g at ≡ x
  inserted_here = numbers at (omega arith) ∙ one_here f at x
