-- The numbers of a table as a set.
--   rising_ext                            rising lists with the same numbers are the same
--   in_sits, sits_in                      a number of the table has a relay beside it, and back
--   in_insert, insert_in                  an entry put in
--   in_delete, delete_in                  an entry taken out
--   rising_low, rising_insert, rising_delete, rising_in, in_rest    numbers that rise
-- Assumes nothing.
use mathlib.Core.Path.{◌≡◌, refl, sym, ◌∙◌}
use mathlib.Core.List.{List, [], ◌∷◌}
use mathlib.Core.Logic.{◌⊎◌, inl, inr, ⊎_elim}
use Prim.Native.Nat.{ℕ, ◌≤◌, ◌<◌}
use native.Mathlib.Omega.{arith}
use borrow.Author.Tests.{ltb-true, ltb-false, eqb-true}
use lib.Dec.{eqb, ltb}
use Rattle.ring.proofs.Tests.{split}
use Rattle.rule.specs.Entry.{Entry, numbers, insert, delete}
use Rattle.rule.specs.Stability.{Rising, In, Sits}

pub in_sits : (p : List Entry) (t : ℕ) → In t (numbers p) → (v : ℕ) × Sits p t v
unfolding numbers
in_sits [] t i = absurd i
in_sits (e ∷ p) t (inl u) = (e.beside, inl (sym u, refl))
in_sits (e ∷ p) t (inr i) = let w : (v : ℕ) × Sits p t v = in_sits p t i in (w.0, inr w.1)

pub sits_in : (p : List Entry) (t v : ℕ) → Sits p t v → In t (numbers p)
unfolding numbers
sits_in [] t v i = absurd i
sits_in (e ∷ p) t v (inl u) = inl (sym u.0)
sits_in (e ∷ p) t v (inr i) = inr (sits_in p t v i)

pub in_insert : (m v : ℕ) (p : List Entry) (t : ℕ) → In t (numbers (insert m v p)) → (t ≡ m) ⊎ In t (numbers p)
unfolding numbers insert
in_insert m v [] t = λ i. i
in_insert m v (e ∷ p) t =
    split (ltb m e.number)
    (λ s. rw (s, insert) (λ i. i))
    (λ s. rw (s, insert) (λ i. ⊎_elim (λ u. inr (inl u))
    (λ j. ⊎_elim (λ u. inl u) (λ w. inr (inr w)) (in_insert m v p t j)) i))

pub insert_in : (m v : ℕ) (p : List Entry) (t : ℕ) → (t ≡ m) ⊎ In t (numbers p) → In t (numbers (insert m v p))
unfolding numbers insert
insert_in m v [] t = λ i. i
insert_in m v (e ∷ p) t =
    split (ltb m e.number)
    (λ s. rw (s, insert) (λ i. i))
    (λ s. rw (s, insert) (λ i. ⊎_elim (λ u. inr (insert_in m v p t (inl u)))
    (λ j. ⊎_elim (λ u. inl u) (λ w. inr (insert_in m v p t (inr w))) j) i))

pub in_delete : (m : ℕ) (p : List Entry) (t : ℕ) → In t (numbers (delete m p)) → In t (numbers p)
unfolding numbers delete
in_delete m [] t = λ i. i
in_delete m (e ∷ p) t =
    split (eqb e.number m)
    (λ s. rw (s, delete) (λ i. inr i))
    (λ s. rw (s, delete) (λ i. ⊎_elim (λ u. inl u) (λ j. inr (in_delete m p t j)) i))

pub delete_in : (m : ℕ) (p : List Entry) (t : ℕ) → In t (numbers p) → (t ≡ m → ⊥) → In t (numbers (delete m p))
unfolding numbers delete
delete_in m [] t = λ i n. i
delete_in m (e ∷ p) t =
    split (eqb e.number m)
    (λ s. rw (s, delete) (λ i n. ⊎_elim (λ u. absurd (n (u ∙ eqb-true e.number m s))) (λ j. j) i))
    (λ s. rw (s, delete) (λ i n. ⊎_elim (λ u. inl u) (λ j. inr (delete_in m p t j n)) i))

pub rising_low : (l : List ℕ) (low low' : ℕ) → low' ≤ low → Rising low l → Rising low' l
rising_low [] low low' h up = tt
rising_low (t ∷ l) low low' h up = (omega (arith, up.0), up.1)

pub rising_insert : (m v : ℕ) (p : List Entry) (low : ℕ) → low < m → Rising low (numbers p) → (In m (numbers p) → ⊥)
    → Rising low (numbers (insert m v p))
unfolding numbers insert
rising_insert m v [] low h up n = (h, tt)
rising_insert m v (e ∷ p) low h up n =
    split (ltb m e.number)
    (λ s. rw (s, insert) (h, (ltb-true m e.number s, up.1)))
    (λ s. rw (s, insert) (
      up.0,
      rising_insert m v p e.number
          (let z : m ≡ e.number → ⊥ = λ x. n (inl x) in omega (arith, ltb-false m e.number s)) up.1
          (λ i. n (inr i)),
    ))

pub rising_delete : (m : ℕ) (p : List Entry) (low : ℕ) → Rising low (numbers p) → Rising low (numbers (delete m p))
unfolding numbers delete
rising_delete m [] low up = tt
rising_delete m (e ∷ p) low up =
    split (eqb e.number m)
    (λ s. rw (s, delete) (rising_low (numbers p) e.number low (omega (arith, up.0)) up.1))
    (λ s. rw (s, delete) (up.0, rising_delete m p e.number up.1))

-- above low, so not at or below it
pub rising_in : (low : ℕ) (us : List ℕ) (t : ℕ) → Rising low us → In t us → low < t
rising_in low [] t h i = absurd i
rising_in low (u ∷ us) t h (inl p) = rw p h.0
rising_in low (u ∷ us) t h (inr i) = omega (arith, rising_in u us t h.1 i, h.0)

pub in_rest : (u : ℕ) (us : List ℕ) (t : ℕ) → (t ≡ u → ⊥) → In t (u ∷ us) → In t us
in_rest u us t n (inl p) = absurd (n p)
in_rest u us t n (inr i) = i

in_least : (u : ℕ) (us : List ℕ) (t : ℕ) → Rising u us → In t (u ∷ us) → u ≤ t
in_least u us t h (inl p) = omega arith
in_least u us t h (inr i) = omega (arith, rising_in u us t h i)

-- two rising lists of the same numbers are one
pub rising_ext : (l k : List ℕ) (low : ℕ) → Rising low l → Rising low k → ((t : ℕ) → In t l → In t k)
    → ((t : ℕ) → In t k → In t l) → l ≡ k
rising_ext [] [] low u v f g = refl
rising_ext [] (y ∷ k) low u v f g = absurd (g y (inl refl))
rising_ext (x ∷ l) [] low u v f g = absurd (f x (inl refl))
rising_ext (x ∷ l) (y ∷ k) low u v f g =
    let a : y ≤ x = in_least y k x v.1 (f x (inl refl)) in
    let b : x ≤ y = in_least x l y u.1 (g y (inl refl)) in
    let e : x ≡ y = omega arith in
    let ih : l ≡ k = rising_ext l k x u.1 (rising_low k y x b v.1)
    (λ t i. in_rest y k t (λ (z : t ≡ y). omega (arith, rising_in x l t u.1 i)) (f t (inr i)))
    (λ t i. in_rest x l t (λ (z : t ≡ x). omega (arith, rising_in y k t v.1 i)) (g t (inr i))) in
    rw (e, ih)
