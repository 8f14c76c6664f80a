-- Laws of lists that are searched, and of the clockwise order.
--   first_some, first_none     what is found meets the test; where nothing is found nobody does
--   first_least                in an ordered list, what is found comes first among all that meet the test
--   order_in, in_order         the order has the relays that there are, and no other
--   order_sorted               it rises by the key
-- Assumes nothing.
use mathlib.Core.Bool.{Bool, true, false}
use mathlib.Core.Path.{◌≡◌, refl, sym, ap, ◌∙◌}
use mathlib.Core.List.{List, [], ◌∷◌}
use mathlib.Core.Logic.{inl, inr, ⊎_elim}
use mathlib.Core.Option.{Option, none, some}
use Prim.Native.Nat.{ℕ, ◌≤◌, ◌<◌}
use native.Mathlib.Omega.{arith}
use borrow.Author.Tests.{ltb-true, ltb-false}
use lib.Dec.{ltb}
use Rattle.ring.specs.Scheme.{Positions}
use Rattle.ring.specs.Clockwise.{sooner, key}
use Rattle.ring.proofs.Tests.{split, true_false}
use Rattle.ring.proofs.Order.{sooner_key}
use Rattle.rule.specs.Entry.{Entry, first}
use Rattle.rule.specs.Order.{queued, order}
use Rattle.rule.specs.Facts.{Among, Sorted, Small}

-- ---- the first that meets a test

pub option_some : {A : Type 0} (a b : A) → ◌≡◌ {A = Option A} (some a) (some b) → a ≡ b
option_some a b e = cc

pub option_apart : {A : Type 0} (a : A) → ◌≡◌ {A = Option A} none (some a) → ⊥
option_apart a e = let z : ◌≡◌ {A = ℕ} 0 1 = cc in omega arith

module _ (f : Entry → Bool) where
  pub first_none : (l : List Entry) → first f l ≡ none → (x : Entry) → Among x l → f x ≡ false
  unfolding first
  first_none [] e x i = absurd i
  first_none (y ∷ l) e x i =
      split (f y)
      (λ s. absurd (option_apart y (sym (rw (s, first) at e))))
      (λ s. ⊎_elim (λ u. ap f u ∙ s) (λ j. first_none l (rw (s, first) at e) x j) i)

  pub first_some : (l : List Entry) (e : Entry) → first f l ≡ some e → Among e l × (f e ≡ true)
  unfolding first
  first_some [] e h = absurd (option_apart e h)
  first_some (y ∷ l) e h =
      split (f y)
      (λ s. let u : y ≡ e = option_some y e (rw (s, first) at h) in (inl (sym u), ap f (sym u) ∙ s))
      (λ s. let r : Among e l × (f e ≡ true) = first_some l e (rw (s, first) at h) in (inr r.0, r.1))

  pub behind_head : (y : Entry) (l : List Entry) (x : Entry) → Among x (y ∷ l) → f x ≡ true → f y ≡ false → Among x l
  behind_head y l x (inl u) h s = absurd (true_false (sym h ∙ ap f u ∙ s))
  behind_head y l x (inr j) h s = j

  -- one that meets it is enough for something to be found
  pub first_found : (l : List Entry) (x : Entry) → Among x l → f x ≡ true → (e : Entry) × (first f l ≡ some e)
  unfolding first
  first_found [] x i h = absurd i
  first_found (y ∷ l) x i h =
      split (f y)
      (λ s. (y, rw (s, first)))
      (λ s. let r : (e : Entry) × (first f l ≡ some e) = first_found l x (behind_head y l x i h s) h in
      (r.0, rw (s, first) r.1))

-- ---- lists that rise by a key

pub first_least : (f : Entry → Bool) (k : ℕ → ℕ) (l : List Entry) → Sorted k l → (e : Entry) → first f l ≡ some e
    → (x : Entry) → Among x l → f x ≡ true → k e.number ≤ k x.number
unfolding first
first_least f k [] up e h x i t = absurd i
first_least f k (y ∷ l) up e h x i t =
    split (f y)
    (λ s. let u : y ≡ e = option_some y e (rw (s, first) at h) in
    rw (← u) (⊎_elim (λ v. omega (arith, ap (λ (z : Entry). k z.number) v)) (λ j. up.0 x j) i))
    (λ s. first_least f k l up.1 e (rw (s, first) at h) x (behind_head f y l x i t s) t)

-- ---- the clockwise order

module _ (p : Positions) (t : ℕ) where
  pub in_queued : (e : Entry) (l : List Entry) (x : Entry) → Among x (queued p t e l) → Among x (e ∷ l)
  unfolding queued
  in_queued e [] x = λ i. i
  in_queued e (y ∷ l) x =
      split (sooner p t e.number y.number)
      (λ s. rw (s, queued) (λ i. i))
      (λ s. rw (s, queued) (λ i. ⊎_elim (λ u. inr (inl u))
      (λ j. ⊎_elim (λ u. inl u) (λ v. inr (inr v)) (in_queued e l x j)) i))

  queued_in : (e : Entry) (l : List Entry) (x : Entry) → Among x (e ∷ l) → Among x (queued p t e l)
  unfolding queued
  queued_in e [] x = λ i. i
  queued_in e (y ∷ l) x =
      split (sooner p t e.number y.number)
      (λ s. rw (s, queued) (λ i. i))
      (λ s. rw (s, queued) (λ i. ⊎_elim (λ u. inr (queued_in e l x (inl u)))
      (λ j. ⊎_elim (λ u. inl u) (λ v. inr (queued_in e l x (inr v))) j) i))

  pub order_in : (l : List Entry) (x : Entry) → Among x (order p t l) → Among x l
  unfolding order
  order_in [] x i = i
  order_in (e ∷ l) x i = ⊎_elim (λ u. inl u) (λ j. inr (order_in l x j)) (in_queued e (order p t l) x i)

  pub in_order : (l : List Entry) (x : Entry) → Among x l → Among x (order p t l)
  unfolding order
  in_order [] x i = i
  in_order (e ∷ l) x i = queued_in e (order p t l) x (⊎_elim (λ u. inl u) (λ j. inr (in_order l x j)) i)

  queued_sorted : (e : Entry) (l : List Entry) → Small (e ∷ l) → Sorted (key p t) l → Sorted (key p t) (queued p t e l)
  unfolding queued
  queued_sorted e [] small up = (λ x i. absurd i, tt)
  queued_sorted e (y ∷ l) small up =
      let c : sooner p t e.number y.number ≡ ltb (key p t e.number) (key p t y.number) =
      sooner_key p t e.number y.number (small e (inl refl)) (small y (inr (inl refl))) in
      split (sooner p t e.number y.number)
      (λ s.
      let h : key p t e.number < key p t y.number = ltb-true (key p t e.number) (key p t y.number)
      (sym c ∙ s) in
      rw (s, queued) (
        λ x i. ⊎_elim (λ u. omega (arith, ap (λ (z : Entry). key p t z.number) u))
            (λ j. omega (arith, up.0 x j)) i,
        up,
      ))
      (λ s.
      let h : key p t y.number ≤ key p t e.number = ltb-false (key p t e.number) (key p t y.number)
      (sym c ∙ s) in
      rw (s, queued) (
        λ x i. ⊎_elim (λ u. omega (arith, ap (λ (z : Entry). key p t z.number) u)) (λ j. up.0 x j)
            (in_queued e l x i),
        queued_sorted e l (λ x i. small x (⊎_elim (λ u. inl u) (λ j. inr (inr j)) i)) up.1,
      ))

  pub order_sorted : (l : List Entry) → Small l → Sorted (key p t) (order p t l)
  unfolding order
  order_sorted [] small = tt
  order_sorted (e ∷ l) small =
      queued_sorted e (order p t l) (λ x i. small x (⊎_elim (λ u. inl u) (λ j. inr (order_in l x j)) i))
      (order_sorted l (λ x i. small x (inr i)))
