-- Counts and places under an entry put in or taken out.
--   load_insert, load_delete, length_insert, length_delete    loads, and how many entries there are
--   lower_insert, lower_delete, lower_load, lower_up          how many at a relay have lower numbers
--   lower_load_one, lower_between                             and one that has not
--   sits_insert, insert_sits, sits_delete, delete_sits, sits_deleted    who sits where
--   count_insert, count_delete, count_length, delete_length   how many meet a test
--   above_down, above_fewer, above_sits                       how many numbers are above one
--   at_other, at_not, at_yes, at_le, at_one, sits_above       one entry's part in a count
-- Assumes nothing.
use mathlib.Core.Bool.{Bool, ◌&&◌, cond}
use mathlib.Core.Path.{◌≡◌, refl, sym, ap, ◌∙◌}
use mathlib.Core.List.{List, [], ◌∷◌}
use mathlib.Core.Logic.{◌⊎◌, inl, inr, ⊎_elim}
use Prim.Native.Nat.{ℕ, suc, ◌+◌, ◌≤◌, ◌<◌}
use native.Mathlib.Omega.{arith}
use borrow.Author.Tests.{ltb-true, ltb-false, eqb-true, eqb-false, eq-eqb, ne_eqb, lt-ltb, le-ltb}
use lib.Dec.{eqb, ltb}
use lib.ListN.{length}
use Rattle.ring.proofs.Tests.{split}
use Rattle.rule.specs.Entry.{Entry, numbers, insert, delete, load, count, entry}
use Rattle.rule.specs.Stability.{Rising, bit, lower, Sits}

unfoldable pub at : ℕ → ℕ → ℕ → ℕ → ℕ
at r q m n = bit (eqb r q && ltb m n)

-- what one entry counts for
pub at_other : (r q m n : ℕ) → (r ≡ q → ⊥) → at r q m n ≡ 0
unfolding at bit
at_other r q m n h = rw (ne_eqb r q h)

pub at_not : (r q m n : ℕ) → n ≤ m → at r q m n ≡ 0
unfolding at bit
at_not r q m n h = rw (le-ltb m n h) (split (eqb r q) (λ s. rw s) (λ s. rw s))

pub at_yes : (r q m n : ℕ) → r ≡ q → m < n → at r q m n ≡ 1
unfolding at bit
at_yes r q m n e h = rw (eq-eqb r q e, lt-ltb m n h)

pub at_le : (r q m n m' n' : ℕ) → (m < n → m' < n') → at r q m n ≤ at r q m' n'
at_le r q m n m' n' h =
    split (ltb m n)
    (λ s. split (eqb r q)
    (λ u. rw (at_yes r q m n (eqb-true r q u) (ltb-true m n s), at_yes r q m' n' (eqb-true r q u) (h (ltb-true m n s)))
    (omega arith))
    (λ u. rw (at_other r q m n (eqb-false r q u)) (omega arith)))
    (λ s. rw (at_not r q m n (ltb-false m n s)) (omega arith))

pub at_one : (r q m n : ℕ) → at r q m n ≤ 1
unfolding at bit
at_one r q m n = split (eqb r q && ltb m n) (λ s. rw s (omega arith)) (λ s. rw s (omega arith))

pub sits_above : (p : List Entry) (low n v : ℕ) → Rising low (numbers p) → Sits p n v → low < n
unfolding numbers
sits_above [] low n v up i = absurd i
sits_above (e ∷ p) low n v up (inl u) = omega (arith, up.0, u.0)
sits_above (e ∷ p) low n v up (inr i) = omega (arith, up.0, sits_above p e.number n v up.1 i)

-- ---- counts

pub lower_insert : (m r : ℕ) (p : List Entry) (q n : ℕ) → lower (insert m r p) q n ≡ at r q m n + lower p q n
unfolding insert lower at
lower_insert m r [] q n = refl
lower_insert m r (e ∷ p) q n =
    split (ltb m e.number)
    (λ s. rw (s, insert))
    (λ s. rw (s, insert) (omega (arith, lower_insert m r p q n)))

pub lower_delete : (m r : ℕ) (p : List Entry) (low : ℕ) → Rising low (numbers p) → Sits p m r → (q n : ℕ) → lower p q n
    ≡ at r q m n + lower (delete m p) q n
unfolding delete lower at numbers
lower_delete m r [] low up i q n = absurd i
lower_delete m r (e ∷ p) low up (inl u) q n = rw (← u.0, ← u.1, eq-eqb e.number e.number refl, delete)
lower_delete m r (e ∷ p) low up (inr i) q n =
    let h : e.number < m = sits_above p e.number m r up.1 i in
    rw (ne_eqb e.number m (λ (x : e.number ≡ m). omega arith), delete)
    (omega (arith, lower_delete m r p e.number up.1 i q n))

pub lower_load : (p : List Entry) (q n : ℕ) → lower p q n ≤ load p q
unfolding lower load count bit
lower_load [] q n = omega arith
lower_load (e ∷ p) q n =
    split (eqb e.beside q)
    (λ s. rw s (split (ltb e.number n) (λ u. rw u (omega (arith, lower_load p q n)))
    (λ u. rw u (omega (arith, lower_load p q n)))))
    (λ s. rw s (omega (arith, lower_load p q n)))

-- one who sits there, and is not below n, is counted by the load alone
pub lower_load_one : (p : List Entry) (q n m : ℕ) → Sits p m q → n ≤ m → lower p q n + 1 ≤ load p q
unfolding lower load count bit
lower_load_one [] q n m i h = absurd i
lower_load_one (e ∷ p) q n m (inl u) h =
    rw (eq-eqb e.beside q u.1, le-ltb e.number n (omega (arith, u.0))) (omega (arith, lower_load p q n))
lower_load_one (e ∷ p) q n m (inr i) h =
    split (eqb e.beside q)
    (λ s. rw s (split (ltb e.number n) (λ u. rw u (omega (arith, lower_load_one p q n m i h)))
    (λ u. rw u (omega (arith, lower_load_one p q n m i h)))))
    (λ s. rw s (omega (arith, lower_load_one p q n m i h)))

pub lower_up : (p : List Entry) (q n k : ℕ) → n ≤ k → lower p q n ≤ lower p q k
unfolding lower at
lower_up [] q n k h = omega arith
lower_up (e ∷ p) q n k h =
    omega (
      arith,
      lower_up p q n k h,
      at_le e.beside q e.number n e.number k
          (λ (x : e.number < n). omega arith),
    )

-- one who sits there, between n and k
pub lower_between : (p : List Entry) (q n m k : ℕ) → Sits p m q → n ≤ m → m < k → lower p q n + 1 ≤ lower p q k
unfolding lower bit at
lower_between [] q n m k i h l = absurd i
lower_between (e ∷ p) q n m k (inl u) h l =
    rw (
      eq-eqb e.beside q u.1,
      le-ltb e.number n (omega (arith, u.0)),
      lt-ltb e.number k
          (omega (arith, u.0)),
    ) (omega (arith, lower_up p q n k (omega arith)))
lower_between (e ∷ p) q n m k (inr i) h l =
    omega (
      arith,
      lower_between p q n m k i h l,
      at_le e.beside q e.number n e.number k
          (λ (x : e.number < n). omega arith),
    )

-- ---- who sits where

pub sits_insert : (m r : ℕ) (p : List Entry) (n v : ℕ) → Sits (insert m r p) n v → ((m ≡ n) × (r ≡ v)) ⊎ Sits p n v
unfolding insert
sits_insert m r [] n v = λ i. i
sits_insert m r (e ∷ p) n v =
    split (ltb m e.number)
    (λ s. rw (s, insert) (λ i. i))
    (λ s. rw (s, insert) (λ i. ⊎_elim (λ u. inr (inl u))
    (λ j. ⊎_elim (λ u. inl u) (λ w. inr (inr w)) (sits_insert m r p n v j)) i))

pub insert_sits : (m r : ℕ) (p : List Entry) (n v : ℕ) → ((m ≡ n) × (r ≡ v)) ⊎ Sits p n v → Sits (insert m r p) n v
unfolding insert
insert_sits m r [] n v = λ i. i
insert_sits m r (e ∷ p) n v =
    split (ltb m e.number)
    (λ s. rw (s, insert) (λ i. i))
    (λ s. rw (s, insert) (λ i. ⊎_elim (λ u. inr (insert_sits m r p n v (inl u)))
    (λ j. ⊎_elim (λ u. inl u) (λ w. inr (insert_sits m r p n v (inr w))) j) i))

pub sits_delete : (m : ℕ) (p : List Entry) (n v : ℕ) → Sits (delete m p) n v → Sits p n v
unfolding delete
sits_delete m [] n v = λ i. i
sits_delete m (e ∷ p) n v =
    split (eqb e.number m)
    (λ s. rw (s, delete) (λ i. inr i))
    (λ s. rw (s, delete) (λ i. ⊎_elim (λ u. inl u) (λ j. inr (sits_delete m p n v j)) i))

pub delete_sits : (m : ℕ) (p : List Entry) (n v : ℕ) → Sits p n v → (n ≡ m → ⊥) → Sits (delete m p) n v
unfolding delete
delete_sits m [] n v = λ i d. i
delete_sits m (e ∷ p) n v =
    split (eqb e.number m)
    (λ s. rw (s, delete) (λ i d. ⊎_elim (λ u. absurd (d (sym u.0 ∙ eqb-true e.number m s))) (λ j. j) i))
    (λ s. rw (s, delete) (λ i d. ⊎_elim (λ u. inl u) (λ j. inr (delete_sits m p n v j d)) i))

pub sits_deleted : (m : ℕ) (p : List Entry) (low : ℕ) → Rising low (numbers p) → (n v : ℕ) → Sits (delete m p) n v
    → n ≡ m → ⊥
unfolding delete numbers
sits_deleted m [] low up n v = λ i x. i
sits_deleted m (e ∷ p) low up n v =
    split (eqb e.number m)
    (λ s. rw (s, delete) (λ i x. let z : e.number < n = sits_above p e.number n v up.1 i in omega
    (arith, eqb-true e.number m s)))
    (λ s. rw (s, delete) (λ i x. ⊎_elim (λ u. eqb-false e.number m s (u.0 ∙ x))
    (λ j. sits_deleted m p e.number up.1 n v j x) i))

-- ---- how many meet a test

module _ (f : Entry → Bool) where
  pub count_insert : (m r : ℕ) (p : List Entry) → count f (insert m r p) ≡ cond (f (entry m r)) 1 0 + count f p
  unfolding count insert
  count_insert m r [] = refl
  count_insert m r (e ∷ p) =
      split (ltb m e.number) (λ s. rw (s, insert)) (λ s. rw (s, insert) (omega (arith, count_insert m r p)))

  pub count_delete : (m r : ℕ) (p : List Entry) (low : ℕ) → Rising low (numbers p) → Sits p m r → count f p
      ≡ cond (f (entry m r)) 1 0 + count f (delete m p)
  unfolding count delete numbers
  count_delete m r [] low up i = absurd i
  count_delete m r (e ∷ p) low up (inl u) = rw (← u.0, ← u.1, eq-eqb e.number e.number refl, delete)
  count_delete m r (e ∷ p) low up (inr i) =
      let h : e.number < m = sits_above p e.number m r up.1 i in
      rw (ne_eqb e.number m (λ (x : e.number ≡ m). omega arith), delete)
      (omega (arith, count_delete m r p e.number up.1 i))

  pub count_length : (p : List Entry) → count f p ≤ length p
  unfolding count
  count_length [] = omega arith
  count_length (e ∷ p) =
      split (f e) (λ s. rw s (omega (arith, count_length p))) (λ s. rw s (omega (arith, count_length p)))

pub load_insert : (m r : ℕ) (p : List Entry) (q : ℕ) → load (insert m r p) q ≡ cond (eqb r q) 1 0 + load p q
unfolding load
load_insert m r p q = count_insert (λ e. eqb e.beside q) m r p

pub load_delete : (m r : ℕ) (p : List Entry) (low : ℕ) → Rising low (numbers p) → Sits p m r → (q : ℕ)
    → load p q ≡ cond (eqb r q) 1 0 + load (delete m p) q
unfolding load
load_delete m r p low up i q = count_delete (λ e. eqb e.beside q) m r p low up i

pub length_insert : (m r : ℕ) (p : List Entry) → length (insert m r p) ≡ suc (length p)
unfolding insert
length_insert m r [] = refl
length_insert m r (e ∷ p) = split (ltb m e.number) (λ s. rw (s, insert)) (λ s. rw (s, insert, length_insert m r p))

pub length_delete : (m r : ℕ) (p : List Entry) (low : ℕ) → Rising low (numbers p) → Sits p m r
    → length p ≡ suc (length (delete m p))
unfolding delete numbers
length_delete m r [] low up i = absurd i
length_delete m r (e ∷ p) low up (inl u) = rw (← u.0, eq-eqb e.number e.number refl, delete)
length_delete m r (e ∷ p) low up (inr i) =
    let h : e.number < m = sits_above p e.number m r up.1 i in
    rw (ne_eqb e.number m (λ (x : e.number ≡ m). omega arith), delete)
    (ap suc (length_delete m r p e.number up.1 i))

pub delete_length : (n : ℕ) (es : List Entry) → length (delete n es) ≤ length es
unfolding delete
delete_length n [] = omega arith
delete_length n (e ∷ es) =
    split (eqb e.number n) (λ s. rw (s, delete) (omega arith))
    (λ s. rw (s, delete) (omega (arith, delete_length n es)))

-- ---- how many numbers are above n

unfoldable pub above : List Entry → ℕ → ℕ
above p n = count (λ e. ltb n e.number) p

pub above_down : (p : List Entry) (n k : ℕ) → n ≤ k → above p k ≤ above p n
unfolding above count
above_down [] n k h = omega arith
above_down (e ∷ p) n k h =
    split (ltb k e.number)
    (λ s. rw (s, lt-ltb n e.number (omega (arith, ltb-true k e.number s))) (omega (arith, above_down p n k h)))
    (λ s. rw s (omega (arith, above_down p n k h)))

-- one who sits above w goes, and w or that one sits down instead: fewer are above that one than were above w
pub above_fewer : (m r : ℕ) (p : List Entry) (low : ℕ) → Rising low (numbers p) → Sits p m r → (w t c : ℕ) → w < m
    → t ≤ m
    → above (insert t c (delete m p)) m < above p w
unfolding above
above_fewer m r p low up i w t c h l =
    omega (
      arith,
      rw (le-ltb m t l) at (count_insert (λ e. ltb m e.number) t c (delete m p)),
      rw (lt-ltb w m h) at (count_delete (λ e. ltb w e.number) m r p low up i),
      above_down (delete m p) w m (omega arith),
    )

-- somebody sits at q who is not below n
pub above_sits : (p : List Entry) (q n : ℕ) → lower p q n < load p q → (m : ℕ) × Sits p m q × (n ≤ m)
unfolding lower load count bit
above_sits [] q n h = absurd (omega arith)
above_sits (e ∷ p) q n h =
    split (eqb e.beside q)
    (λ s. split (ltb e.number n)
    (λ u. further (above_sits p q n (omega (arith, rw (s, u) at h))))
    (λ u. (e.number, inl (refl, eqb-true e.beside q s), ltb-false e.number n u)))
    (λ s. further (above_sits p q n (omega (arith, rw s at h))))
  where
    further : (m : ℕ) × Sits p m q × (n ≤ m) → (m : ℕ) × Sits (e ∷ p) m q × (n ≤ m)
    further v = (v.0, inr v.1, v.2)
