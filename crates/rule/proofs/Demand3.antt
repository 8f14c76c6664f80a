-- Demand 3: on a ring that has no relay less, no limit lower and no tablet more, no tablet sits later.
--   demand_3                                     the demand, of two rings
--   has_in, in_has, held_has                     which numbers a table has
--   beside_held, has_sits, sits_beside           what stands beside a number
-- Assumes nothing.
use mathlib.Core.Bool.{true}
use mathlib.Core.Path.{◌≡◌, refl, sym, ◌∙◌}
use mathlib.Core.List.{List, [], ◌∷◌}
use mathlib.Core.Logic.{◌⊎◌, inl, inr, ⊎_elim}
use Prim.Native.Nat.{ℕ, ◌^◌, ◌≤◌, ◌<◌}
use native.Mathlib.Omega.{arith}
use borrow.Author.Tests.{ltb-true, ltb-false, eqb-true, eqb-false, eq-eqb}
use lib.Dec.{eqb, ltb}
use Rattle.ring.specs.Scheme.{Positions}
use Rattle.ring.specs.Clockwise.{sooner, key}
use Rattle.ring.proofs.Tests.{split, true_false}
use Rattle.ring.proofs.Order.{sooner_key, key_apart}
use Rattle.rule.specs.Entry.{Entry, numbers, has, beside_of}
use Rattle.rule.specs.Rule.{Ring, right}
use Rattle.rule.specs.Rooms.{held, fill}
use Rattle.rule.specs.Stability.{Rising, In, Sits}
use Rattle.rule.specs.Facts.{Right}
use Rattle.rule.specs.Sets.{Roomier}
use Rattle.rule.proofs.Counts.{sits_above}
use Rattle.rule.proofs.Nearer.{nearer}
use Rattle.rule.proofs.Exists.{held_above}
use Rattle.rule.proofs.Right.{right_is, right_stable, held_small, length_numbers}

-- ---- what a table has

pub has_in : (es : List Entry) (n : ℕ) → has es n ≡ true → In n (numbers es)
unfolding has numbers
has_in [] n h = absurd (true_false (sym h))
has_in (e ∷ es) n h =
    split (eqb e.number n) (λ s. inl (sym (eqb-true e.number n s))) (λ s. inr (has_in es n (rw s at h)))

pub in_has : (es : List Entry) (n : ℕ) → In n (numbers es) → has es n ≡ true
unfolding has numbers
in_has [] n i = absurd i
in_has (e ∷ es) n (inl u) = rw (eq-eqb e.number n (sym u))
in_has (e ∷ es) n (inr i) = split (eqb e.number n) (λ s. rw s) (λ s. rw s (in_has es n i))

pub beside_held : (es : List Entry) (low n : ℕ) → Rising low (numbers es) → held es n ≡ beside_of es n
unfolding held beside_of numbers
beside_held [] low n up = refl
beside_held (e ∷ es) low n up =
    split (eqb e.number n)
    (λ s. rw s (omega (arith, held_above es e.number n up.1 (omega (arith, eqb-true e.number n s)))))
    (λ s. rw s (omega (arith, beside_held es e.number n up.1)))

pub held_has : (es : List Entry) (n : ℕ) → 0 < held es n → has es n ≡ true
unfolding held has
held_has [] n h = absurd (omega arith)
held_has (e ∷ es) n h = split (eqb e.number n) (λ s. rw s) (λ s. rw s (held_has es n (omega (arith, rw s at h))))

-- who is there sits at what stands beside it
pub has_sits : (es : List Entry) (low n : ℕ) → Rising low (numbers es) → has es n ≡ true → Sits es n (beside_of es n)
unfolding has beside_of numbers
has_sits [] low n up h = absurd (true_false (sym h))
has_sits (e ∷ es) low n up h =
    split (eqb e.number n)
    (λ s. rw s (inl (eqb-true e.number n s, refl)))
    (λ s. rw s (inr (has_sits es e.number n up.1 (rw s at h))))

pub sits_beside : (es : List Entry) (low n v : ℕ) → Rising low (numbers es) → Sits es n v → beside_of es n ≡ v
unfolding beside_of numbers
sits_beside [] low n v up i = absurd i
sits_beside (e ∷ es) low n v up i =
    split (eqb e.number n)
    (λ s. rw s (⊎_elim (λ u. u.1) (λ j. absurd
    (omega (arith, sits_above es e.number n v up.1 j, eqb-true e.number n s))) i))
    (λ s. rw s (⊎_elim (λ u. absurd (eqb-false e.number n s u.0)) (λ j. sits_beside es e.number n v up.1 j)
    i))

-- ---- the demand

-- a tablet's relay is a 32-bit number
seated_small : (p : Positions) (g : Ring) → Right p g → (t : ℕ) → has g.tablets t ≡ true
    → beside_of g.tablets t < 2 ^ 32
seated_small p g r t h =
    held_small p g.relays r.relays (beside_of g.tablets t)
    (omega (arith, (right_stable p g r t (beside_of g.tablets t) (has_sits g.tablets 0 t r.tablets.up h)).room))

pub demand_3 : (p : Positions) (g₁ g₂ : Ring) → right p g₁ ≡ true → right p g₂ ≡ true → Roomier g₁ g₂
    → (t : ℕ) → has g₂.tablets t ≡ true
    → (beside_of g₂.tablets t ≡ beside_of g₁.tablets t) ⊎
    (sooner p t (beside_of g₂.tablets t) (beside_of g₁.tablets t) ≡ true)
demand_3 p g₁ g₂ t₁ t₂ more t h =
    let r₁ : Right p g₁ = right_is p g₁ t₁ in
    let r₂ : Right p g₂ = right_is p g₂ t₂ in
    let at₁ : ℕ = beside_of g₁.tablets t in
    let at₂ : ℕ = beside_of g₂.tablets t in
    let s₁ : at₁ < 2 ^ 32 = seated_small p g₁ r₁ t (more.tablets t h) in
    let s₂ : at₂ < 2 ^ 32 = seated_small p g₂ r₂ t h in
    let n : key p t (beside_of (fill (key p) g₂.relays (numbers g₂.tablets)) t) ≤ key p t
    (beside_of (fill (key p) g₁.relays (numbers g₁.tablets)) t) =
    nearer (key p) (λ r. r < 2 ^ 32) (λ t r q. key_apart p t r q) g₁.relays g₂.relays (numbers g₁.tablets)
    (numbers g₂.tablets) r₁.tablets.up r₂.tablets.up
    (λ r. split (ltb 0 (held g₁.relays r))
    (λ s. omega (
      arith,
      beside_held g₁.relays 0 r r₁.relays.up,
      beside_held g₂.relays 0 r
          r₂.relays.up,
      more.limits r (held_has g₁.relays r (ltb-true 0 (held g₁.relays r) s)),
    ))
    (λ s. omega (arith, ltb-false 0 (held g₁.relays r) s)))
    (held_small p g₂.relays r₂.relays)
    (λ u i. has_in g₁.tablets u (more.tablets u (in_has g₂.tablets u i)))
    (omega (arith, r₁.enough, length_numbers g₁.tablets)) (omega (arith, r₂.enough, length_numbers g₂.tablets))
    t (has_in g₂.tablets t h) in
    let k : key p t at₂ ≤ key p t at₁ = rw (← r₁.ruled, ← r₂.ruled) at n in
    split (ltb (key p t at₂) (key p t at₁))
    (λ s. inr (sooner_key p t at₂ at₁ s₂ s₁ ∙ s))
    (λ s. inl (key_apart p t at₂ at₁ s₂ s₁ (omega (arith, ltb-false (key p t at₂) (key p t at₁) s))))
