-- Laws of the first relay with room in the clockwise order from a position.
--   least_low, least_high          the least key is a lower bound, and the greatest
--   key_open, key_shut             the key of a relay with room and of a full one
--   first_open                     the first relay with room has room
-- Assumes nothing.
use mathlib.Core.Bool.{Bool, true, false, cond}
use mathlib.Core.List.{List}
use mathlib.Core.Logic.{◌⊎◌, inl, inr, ⊎_elim}
use mathlib.Core.Path.{◌≡◌, refl, sym, subst}
use Prim.Native.Nat.{ℕ, zero, suc, ◌+◌, ◌*◌, ◌%◌, ◌^◌, ◌≤◌, ◌<◌}
use native.Mathlib.Nat.{not-suc-le-zero}
use native.Mathlib.Omega.{arith, min_cases}
use borrow.Author.Tests.{ltb-true, lt-ltb, le-ltb}
use lib.Dec.{ltb}
use lib.ListN.{get_or}
use Rattle.ring.specs.Most.{most_relays}
use Rattle.ring.specs.Clockwise.{clockwise}
use Rattle.tables.specs.Placement.{nobody, key_from, open_key, least_key, first_with_room}
use Rattle.tables.proofs.Loops.{eq_or_ne}

module _ (position room : List ℕ) (t : ℕ) where
  pub least_low : (n k : ℕ) → k < n → least_key position room t n ≤ open_key position room t k
  unfolding least_key
  least_low zero k l = absurd (not-suc-le-zero l)
  least_low (suc n) k l =
      ⊎_elim (λ (e : k ≡ n). rw e (omega arith)) (λ d. omega (arith, least_low n k (omega arith))) (eq_or_ne k n)

  pub least_high : (n x : ℕ) → x ≤ nobody → ((k : ℕ) → k < n → x ≤ open_key position room t k)
      → x ≤ least_key position room t n
  unfolding least_key
  least_high zero x h f = h
  least_high (suc n) x h f = omega (arith, least_high n x h (λ k l. f k (omega arith)), f n (omega arith))

  pub least_top : (n : ℕ) → least_key position room t n ≤ nobody
  unfolding least_key
  least_top zero = omega arith
  least_top (suc n) = omega (arith, least_top n)

  pub key_open : (i : ℕ) → 0 < get_or room i 0 → open_key position room t i ≡ key_from t (get_or position i 0) i
  unfolding open_key
  key_open i h = rw (lt-ltb 0 (get_or room i 0) h)

  pub key_shut : (i : ℕ) → get_or room i 0 ≤ 0 → open_key position room t i ≡ nobody
  unfolding open_key
  key_shut i h = rw (le-ltb 0 (get_or room i 0) h)

  -- the least key is nobody's, or that of a relay with room
  Open : ℕ → ℕ → Type 0
  Open n k = (k ≡ nobody) ⊎ ((k % 2 ^ 32 < n) × (0 < get_or room (k % 2 ^ 32) 0))

  open_key_lem : (i : ℕ) → i < most_relays → (b : Bool) → ltb 0 (get_or room i 0) ≡ b
      → Open (suc i) (cond b (key_from t (get_or position i 0) i) nobody)
  unfolding Open key_from
  open_key_lem i h true e =
      let q : (clockwise t (get_or position i 0) * 2 ^ 32 + i) % 2 ^ 32 ≡ i = omega arith in
      inr (omega arith, rw q (ltb-true _ _ e))
  open_key_lem i h false e = inl refl

  wider : (n k : ℕ) → Open n k → Open (suc n) k
  unfolding Open
  wider n k (inl e) = inl e
  wider n k (inr o) = inr (omega arith, o.1)

  least_open : (n : ℕ) → n ≤ most_relays → Open n (least_key position room t n)
  unfolding Open least_key open_key
  least_open zero h = inl refl
  least_open (suc n) h =
      let a : Open (suc n) (least_key position room t n) = wider n _ (least_open n (omega arith)) in
      let b : Open (suc n) (open_key position room t n) = open_key_lem n (omega arith) _ refl in
      min_cases _ _ (Open (suc n) (least_key position room t (suc n))) (λ _ e. subst (Open (suc n)) (sym e) a)
      (λ _ e. subst (Open (suc n)) (sym e) b)

  pub first_open : {n i : ℕ} → n ≤ most_relays → i ≡ first_with_room position room t n → i < n → 0 < get_or room i 0
  unfolding Open first_with_room
  first_open {n} {i} h e l = rw e (go (least_open n h))
    where
      go : Open n (least_key position room t n) → 0 < get_or room (least_key position room t n % 2 ^ 32) 0
      go (inl q) = absurd (let z : least_key position room t n % 2 ^ 32 ≡ 4294967295 = rw q in omega arith)
      go (inr o) = o.1
