-- Folds over the first places, with one place more.
--   total_more, load_more    one place more
--   greatest_more            the greatest number with a relay beside it
-- Assumes nothing.
use mathlib.Core.Bool.{cond}
use mathlib.Core.Path.{◌≡◌, refl, ap, ◌∙◌}
use mathlib.Core.List.{List, [], ◌∷◌, ◌++◌}
use Prim.Native.Nat.{ℕ, ◌+◌, ◌<◌, max}
use native.Mathlib.Numerals.{add-one}
use native.Mathlib.Omega.{arith}
use borrow.Author.Tests.{ltb-true, ltb-false}
use lib.Dec.{eqb, ltb}
use Rattle.ring.proofs.Tests.{split}
use Rattle.rule.specs.Entry.{Entry, entry, numbers, total, load}
use Rattle.rule.specs.Walks.{greatest}
use Rattle.rule.proofs.Placements as Placing
use Rattle.rule.proofs.Searches.{greatest_sits}
use Rattle.meaning.specs.Meaning.{places}
use Rattle.meaning.specs.Ascending.{Ascending}
use Rattle.meaning.proofs.Places.{At, sits_places}

-- ---- two lists one behind the other

pub numbers_append : (k l : List Entry) → numbers (k ++ l) ≡ numbers k ++ numbers l
unfolding numbers
numbers_append [] l = refl
numbers_append (e ∷ k) l = ap (λ (z : List ℕ). e.number ∷ z) (numbers_append k l)

pub total_append : (k l : List Entry) → total (k ++ l) ≡ total k + total l
unfolding total
total_append [] l = omega arith
total_append (e ∷ k) l = omega (arith, total_append k l)

pub greatest_append : (k l : List Entry) (r : ℕ) → greatest (k ++ l) r ≡ max (greatest k r) (greatest l r)
unfolding greatest
greatest_append [] l r = omega arith
greatest_append (e ∷ k) l r =
    split (eqb e.beside r)
    (λ s. rw (s, greatest) (omega (arith, greatest_append k l r)))
    (λ s. rw (s, greatest) (greatest_append k l r))

-- ---- one place more

module _ (f b : ℕ → ℕ) (n : ℕ) where
  pub total_more : total (places f b (n + 1)) ≡ total (places f b n) + b n
  unfolding places total
  total_more = rw add-one (total_append (places f b n) (entry (f n) (b n) ∷ []) ∙ omega arith)

  pub load_more : (q : ℕ) → load (places f b (n + 1)) q ≡ load (places f b n) q + cond (eqb (b n) q) 1 0
  unfolding places
  load_more q = rw add-one (Placing.load_more (places f b n) (f n) (b n) q)

-- ---- the greatest number

module _ (f b : ℕ → ℕ) (n r : ℕ) where
  greatest_at : 0 < greatest (places f b n) r → At f b n (greatest (places f b n) r) r
  greatest_at h = sits_places f b n (greatest (places f b n) r) r (greatest_sits (places f b n) r h)

  pub greatest_more : Ascending f (n + 1) → greatest (places f b (n + 1)) r ≡ cond (eqb (b n) r) (f n)
      (greatest (places f b n) r)
  unfolding places greatest
  greatest_more a =
      let g : ℕ = greatest (places f b n) r in
      let low : g < f n =
      split (ltb 0 g)
      (λ s. let t : At f b n g r = greatest_at (ltb-true 0 g s) in omega
      (arith, a.up t.at n t.below (omega arith), t.number))
      (λ s. omega (arith, ltb-false 0 g s, a.numbered n (omega arith))) in
      rw add-one
      (greatest_append (places f b n) (entry (f n) (b n) ∷ []) r
      ∙ split (eqb (b n) r) (λ s. rw (s, greatest) (omega arith)) (λ s. rw (s, greatest) (omega arith)))
