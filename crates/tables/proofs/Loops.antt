-- Laws that loops over places and arrays share.
--   at_end                              a loop that counts up has come to its end
--   all_step, all_more, all_false       one more place is tested
--   all_at, all_of                      a test of every place, and of each
--   stored                              what holds of an array after a store
--   array_more, array_at, array_beyond  an array that is loaded from its start
-- Assumes nothing.
use mathlib.Core.Bool.{Bool, true, false, ◌&&◌, and-false}
use mathlib.Core.List.{List}
use mathlib.Core.Logic.{◌⊎◌, inl, inr, ⊎_elim}
use mathlib.Core.Path.{◌≡◌, refl, sym, ap, ◌∙◌}
use Prim.Native.Nat.{ℕ, zero, suc, ◌+◌, ◌≤◌, ◌<◌}
use native.Mathlib.Decide.{ℕ_discrete}
use native.Mathlib.Nat.{le_antisymm, eq-or-lt_of_le, le_of_suc-le-suc, not-suc-le-zero}
use native.Mathlib.Numerals.{add-one}
use native.Mathlib.Omega.{arith}
use lib.ListN.{length, get_or, set, replicate, length-set}
use lib.Seq.{get_or-set_same, get_or-set_other}
use Rattle.ring.specs.Most.{most_relays}
use Rattle.ring.proofs.Tests.{split, true_false}
use Rattle.tables.specs.Shape.{all}
use Rattle.tables.specs.Placement.{array}

pub eq_or_ne : (a b : ℕ) → (a ≡ b) ⊎ (a ≡ b → ⊥)
eq_or_ne a b = elim (ℕ_discrete a b) [ yes e ↦ inl e | no d ↦ inr d ]

-- what was so of the i places done is so of all n
pub at_end : {A : Type 0} (f : ℕ → A) {i n : ℕ} {x : A} → i ≤ n → n ≤ i → x ≡ f i → x ≡ f n
at_end f p q e = e ∙ ap f (le_antisymm p q)

-- ---- a test of every place

module _ (f : ℕ → Bool) {i : ℕ} where
  pub all_step : {ok b r : Bool} → ok ≡ all f i → b ≡ f i → r ≡ (ok && b) → r ≡ all f (i + 1)
  unfolding all
  all_step p q e = e ∙ rw (add-one, p, q)

  pub all_more : true ≡ all f i → f i ≡ true → true ≡ all f (i + 1)
  all_more p q = all_step p (sym q) refl

pub all_false : (f : ℕ → Bool) {i : ℕ} (n : ℕ) → i < n → f i ≡ false → false ≡ all f n
unfolding all
all_false f zero l e = absurd (not-suc-le-zero l)
all_false f {i} (suc n) l e =
    ⊎_elim (λ q. sym (ap (λ (b : Bool). all f n && b) (ap f (sym q) ∙ e) ∙ and-false (all f n)))
    (λ k. rw (← all_false f n k e))
    (eq-or-lt_of_le (le_of_suc-le-suc l))

pub all_at : (f : ℕ → Bool) (n i : ℕ) → all f n ≡ true → i < n → f i ≡ true
all_at f n i e h = split (f i) (λ s. s) (λ s. absurd (true_false (sym e ∙ sym (all_false f n h s))))

pub all_of : (f : ℕ → Bool) (n : ℕ) → ((i : ℕ) → i < n → f i ≡ true) → all f n ≡ true
unfolding all
all_of f zero g = refl
all_of f (suc n) g = rw (all_of f n (λ i h. g i (omega arith)), g n (omega arith))

-- ---- an array

-- after a store at j: what is stored has the property at j, and every other element what it had
pub stored : (P : ℕ → ℕ → Type 0) (l : List ℕ) (j : ℕ) {v : ℕ} → j < length l → P j v → (x : ℕ)
    → ((x ≡ j → ⊥) → P x (get_or l x 0))
    → P x (get_or (set l j v) x 0)
stored P l j {v} h here x other =
    ⊎_elim (λ (e : x ≡ j). rw (e, get_or-set_same l j v 0 h) here)
    (λ (d : x ≡ j → ⊥). rw (get_or-set_other l j x v 0 d) (other d)) (eq_or_ne x j)

module _ (f : ℕ → ℕ) where
  pub array_more : {i v : ℕ} {l : List ℕ} → l ≡ array f i → v ≡ f i → set l i v ≡ array f (i + 1)
  unfolding array
  array_more p q = rw (add-one, p, q)

  pub length_array : (i : ℕ) → length (array f i) ≡ most_relays
  unfolding array
  length_array zero = refl
  length_array (suc i) = simp length-set (length_array i)

  pub array_at : (n k : ℕ) → n ≤ most_relays → k < n → get_or (array f n) k 0 ≡ f k
  unfolding array
  array_at zero k h l = absurd (not-suc-le-zero l)
  array_at (suc n) k h l =
      stored (λ x v. v ≡ f x) (array f n) n (omega (arith, length_array n)) refl k
      (λ d. array_at n k (omega arith) (omega arith))

  pub array_beyond : (n k : ℕ) → n ≤ k → get_or (array f n) k 0 ≡ 0
  unfolding array
  array_beyond zero k h = zeros most_relays k
    where
      zeros : (m k : ℕ) → ◌≡◌ {A = ℕ} (get_or (replicate m 0) k 0) 0
      zeros zero k = refl
      zeros (suc m) zero = refl
      zeros (suc m) (suc k) = zeros m k
  array_beyond (suc n) k h = get_or-set_other (array f n) n k (f n) 0 (λ e. omega arith) ∙ array_beyond n k (omega arith)
