-- Laws of the clockwise order.
--   sooner_near, sooner_tie, sooner_far   the order by its three cases
--   sooner_key                            for 32-bit relay numbers it is the order of the keys
--   key_apart                             two relays have two keys
--   rotation                              of relays behind one relay in two tablets' orders, both have the same order
-- Assumes nothing.
use Rattle.std.proofs.Common.{◌≡◌, ℕ, ◌+◌, ◌-◌, ◌%◌, ◌^◌, ◌<◌, ◌≤◌, true, false, eqb, ltb, sym, ap, ◌∙◌, arith, ltb-false, ltb-true, le-ltb, lt-ltb, eq-eqb, ne_eqb, eqb-true}
use native.Mathlib.Nat.{add-mod, add-mod_right}
use borrow.Author.Tests.{eqb-false}
use Rattle.ring.specs.Scheme.{Positions}
use Rattle.ring.specs.Clockwise.{clockwise, distance, sooner, key}
use Rattle.ring.proofs.Tests.{split}

module _ (p : Positions) (t r q : ℕ) where
  pub sooner_near : distance p t r < distance p t q → sooner p t r q ≡ true
  unfolding sooner
  sooner_near h = rw (lt-ltb (distance p t r) (distance p t q) h)

  pub sooner_tie : distance p t r ≡ distance p t q → sooner p t r q ≡ ltb r q
  unfolding sooner
  sooner_tie e = rw (le-ltb (distance p t r) (distance p t q) (omega arith), eq-eqb (distance p t r) (distance p t q) e)

  pub sooner_far : distance p t q < distance p t r → sooner p t r q ≡ false
  unfolding sooner
  sooner_far h =
      rw (
        le-ltb (distance p t r) (distance p t q) (omega arith),
        ne_eqb (distance p t r) (distance p t q)
            (λ (e : distance p t r ≡ distance p t q). omega arith),
      )

  pub sooner_key : r < 2 ^ 32 → q < 2 ^ 32 → sooner p t r q ≡ ltb (key p t r) (key p t q)
  unfolding key
  sooner_key hr hq =
      split (ltb (distance p t r) (distance p t q))
      (λ s. let h : distance p t r < distance p t q = ltb-true (distance p t r) (distance p t q) s in
      sooner_near h ∙ sym (lt-ltb (key p t r) (key p t q) (omega arith)))
      (λ s. let h : distance p t q ≤ distance p t r = ltb-false (distance p t r) (distance p t q) s in
      split (eqb (distance p t r) (distance p t q))
      (λ u. let e : distance p t r ≡ distance p t q = eqb-true (distance p t r) (distance p t q) u in
      sooner_tie e
      ∙ split (ltb r q)
      (λ v. let l : r < q = ltb-true r q v in v ∙ sym (lt-ltb (key p t r) (key p t q) (omega arith)))
      (λ v. let l : q ≤ r = ltb-false r q v in v ∙ sym (le-ltb (key p t r) (key p t q) (omega arith))))
      (λ u. let n : distance p t r ≡ distance p t q → ⊥ = eqb-false (distance p t r) (distance p t q) u in
      sooner_far (omega arith) ∙ sym (le-ltb (key p t r) (key p t q) (omega arith))))

  pub key_apart : r < 2 ^ 32 → q < 2 ^ 32 → key p t r ≡ key p t q → r ≡ q
  unfolding key
  key_apart hr hq e = omega arith

-- ---- two tablets

-- how far the first stands ahead of the second
ahead_by : Positions → ℕ → ℕ → ℕ
ahead_by p x g = (2 ^ 32 - p.tablet_at g + (2 ^ 32 - (2 ^ 32 - p.tablet_at x))) % 2 ^ 32

turned : (p : Positions) (x g r : ℕ) → distance p g r ≡ (distance p x r + ahead_by p x g) % 2 ^ 32
unfolding distance clockwise ahead_by
turned p x g r =
    let to_g : ℕ = 2 ^ 32 - p.tablet_at g in
    let to_x : ℕ = 2 ^ 32 - p.tablet_at x in
    let e : p.relay_at r + to_g + 2 ^ 32 ≡ p.relay_at r + to_x + (to_g + (2 ^ 32 - to_x)) = omega arith in
    sym (add-mod_right (p.relay_at r + to_g) (2 ^ 32)) ∙ ap (λ (n : ℕ). n % 2 ^ 32) e
    ∙ add-mod (p.relay_at r + to_x) (to_g + (2 ^ 32 - to_x)) (2 ^ 32)

distance_less : (p : Positions) (t r : ℕ) → distance p t r < 2 ^ 32
unfolding distance clockwise
distance_less p t r = omega arith

pub rotation : (p : Positions) (x g a b c : ℕ) → a < 2 ^ 32 → b < 2 ^ 32 → c < 2 ^ 32 → key p x a < key p x b
    → key p x b < key p x c
    → key p g a < key p g b → key p g a < key p g c → key p g b < key p g c
unfolding key ahead_by
rotation p x g a b c ha hb hc xab xbc gab gac =
    omega (
      arith,
      turned p x g a,
      turned p x g b,
      turned p x g c,
      distance_less p x a,
      distance_less p x b,
      distance_less p x c,
    )
