-- Steps round the ring.
--   slot_inside, steps_inside    a step leads to a slot, and every slot is fewer than n steps away
--   slot_steps, steps_slot       the two undo one another
--   slot_ahead, ahead_steps      who comes after fewer steps comes no later, and the other way round
--   slot_next                    one step more is the next slot
-- Assumes nothing.
use mathlib.Core.Bool.{cond}
use mathlib.Core.Path.{◌≡◌, ◌∙◌}
use Prim.Native.Nat.{ℕ, ◌+◌, ◌-◌, ◌≤◌, ◌<◌}
use native.Mathlib.Omega.{arith}
use borrow.Author.Tests.{ltb-true, ltb-false, lt-ltb, le-ltb, le-leb, lt-leb, eqb-true, eqb-false, ne_eqb}
use lib.Dec.{ltb, eqb}
use Rattle.ring.proofs.Tests.{split}
use Rattle.row.specs.Row.{Ahead, both, turn, past}
use Rattle.slots.specs.Slots.{slot_at, steps_to}

module _ (n h : ℕ) (hh : h ≤ n) where
  pub slot_on : (d : ℕ) → h + d < n → slot_at n h d ≡ h + d
  unfolding slot_at
  slot_on d l = rw (lt-ltb (h + d) n l)

  pub slot_round : (d : ℕ) → n ≤ h + d → slot_at n h d ≡ h + d - n
  unfolding slot_at
  slot_round d l = rw (le-ltb (h + d) n l)

  pub slot_inside : (d : ℕ) → d < n → slot_at n h d < n
  slot_inside d c =
      split (ltb (h + d) n)
      (λ s. let l : h + d < n = ltb-true (h + d) n s in omega (arith, slot_on d l))
      (λ s. let l : n ≤ h + d = ltb-false (h + d) n s in omega (arith, slot_round d l))

  steps_on : (k : ℕ) → h ≤ k → steps_to n h k ≡ k - h
  unfolding steps_to
  steps_on k l = rw (le-leb h k l)

  steps_round : (k : ℕ) → k < h → steps_to n h k ≡ k + n - h
  unfolding steps_to
  steps_round k l = rw (lt-leb h k l)

  pub steps_inside : (k : ℕ) → k < n → steps_to n h k < n
  steps_inside k c =
      split (ltb k h)
      (λ s. let l : k < h = ltb-true k h s in omega (arith, steps_round k l))
      (λ s. let l : h ≤ k = ltb-false k h s in omega (arith, steps_on k l))

  pub slot_steps : (k : ℕ) → k < n → slot_at n h (steps_to n h k) ≡ k
  slot_steps k c =
      split (ltb k h)
      (λ s. let l : k < h = ltb-true k h s in
      let e : steps_to n h k ≡ k + n - h = steps_round k l in
      slot_round (steps_to n h k) (omega arith) ∙ omega arith)
      (λ s. let l : h ≤ k = ltb-false k h s in
      let e : steps_to n h k ≡ k - h = steps_on k l in
      slot_on (steps_to n h k) (omega arith) ∙ omega arith)

  pub steps_slot : (d : ℕ) → d < n → steps_to n h (slot_at n h d) ≡ d
  steps_slot d c =
      split (ltb (h + d) n)
      (λ s. let l : h + d < n = ltb-true (h + d) n s in
      let e : slot_at n h d ≡ h + d = slot_on d l in
      steps_on (slot_at n h d) (omega arith) ∙ omega arith)
      (λ s. let l : n ≤ h + d = ltb-false (h + d) n s in
      let e : slot_at n h d ≡ h + d - n = slot_round d l in
      steps_round (slot_at n h d) (omega arith) ∙ omega arith)

  pub slot_ahead : (d c : ℕ) → d ≤ c → c < n → Ahead h (slot_at n h d) (slot_at n h c)
  slot_ahead d c l k =
      split (ltb (h + d) n)
      (λ s. let a : h + d < n = ltb-true (h + d) n s in
      split (ltb (h + c) n)
      (λ u. let b : h + c < n = ltb-true (h + c) n u in both (omega (arith, slot_on d a))
      (omega (arith, slot_on d a, slot_on c b)))
      (λ u. let b : n ≤ h + c = ltb-false (h + c) n u in turn (omega (arith, slot_on d a))
      (omega (arith, slot_round c b))))
      (λ s. let a : n ≤ h + d = ltb-false (h + d) n s in
      past (omega (arith, slot_round d a, slot_round c (omega arith))) (omega (arith, slot_round c (omega arith))))

  -- one step more
  pub slot_next : (d : ℕ) → d + 1 < n → slot_at n h (d + 1) ≡ cond (eqb (slot_at n h d + 1) n) 0 (slot_at n h d + 1)
  slot_next d c =
      split (ltb (h + d) n)
      (λ s. let a : h + d < n = ltb-true (h + d) n s in
      let e : slot_at n h d ≡ h + d = slot_on d a in
      split (eqb (slot_at n h d + 1) n)
      (λ u. let z : slot_at n h d + 1 ≡ n = eqb-true (slot_at n h d + 1) n u in rw u
      (slot_round (d + 1) (omega arith) ∙ omega arith))
      (λ u. let z : slot_at n h d + 1 ≡ n → ⊥ = eqb-false (slot_at n h d + 1) n u in rw u
      (slot_on (d + 1) (omega arith) ∙ omega arith)))
      (λ s. let a : n ≤ h + d = ltb-false (h + d) n s in
      let e : slot_at n h d ≡ h + d - n = slot_round d a in
      rw (ne_eqb (slot_at n h d + 1) n (λ (z : slot_at n h d + 1 ≡ n). omega arith))
      (slot_round (d + 1) (omega arith) ∙ omega arith))

  -- who comes no later is no more steps away
  pub ahead_steps : (k l : ℕ) → k < n → l < n → Ahead h k l → steps_to n h k ≤ steps_to n h l
  ahead_steps k l ck cl (both a b) = omega (arith, steps_on k a, steps_on l (omega arith))
  ahead_steps k l ck cl (turn a b) = omega (arith, steps_on k a, steps_round l b)
  ahead_steps k l ck cl (past a b) = omega (arith, steps_round k (omega arith), steps_round l b)
