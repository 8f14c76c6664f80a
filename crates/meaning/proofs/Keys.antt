-- Keys by place are keys by number: where the numbers ascend, what settles equal distances is the same order.
--   key_order     two keys by place compare as the keys of the relays there
-- Assumes nothing.
use mathlib.Core.Path.{◌≡◌, ap}
use mathlib.Core.List.{List}
use mathlib.Core.Logic.{◌↔◌}
use Prim.Native.Nat.{ℕ, ◌+◌, ◌*◌, ◌^◌, ◌≤◌, ◌<◌}
use native.Mathlib.Omega.{arith}
use borrow.Author.Tests.{ltb-true, ltb-false}
use lib.Dec.{ltb}
use lib.ListN.{get_or}
use Rattle.ring.specs.Most.{most_relays}
use Rattle.ring.specs.Scheme.{Positions}
use Rattle.ring.specs.Clockwise.{distance, key}
use Rattle.ring.proofs.Tests.{split}
use Rattle.tables.specs.Table.{relay_number}
use Rattle.tables.specs.Placement.{relay_positions, key_from}
use Rattle.tables.proofs.Loops.{array_at}
use Rattle.meaning.specs.Ascending.{Ascending}

-- the key of relay place i for tablet t, as the loops work it out
abbrev pub place_key : Positions → List ℕ → ℕ → ℕ → ℕ → ℕ
place_key p rs n t i = key_from (p.tablet_at t) (get_or (relay_positions p rs n) i 0) i

-- x stands to y as u to v
pub record SameOrder (x y u v : ℕ) : Type 0 where
  pub lt : (x < y) ↔ (u < v)
  pub le : (x ≤ y) ↔ (u ≤ v)
  pub eq : (x ≡ y) ↔ (u ≡ v)

module _ (p : Positions) (rs : List ℕ) (n : ℕ) (few : n ≤ most_relays) (a : Ascending (relay_number rs) n) (t : ℕ) where
  -- the distance is the same, and only what settles equal distances differs
  place_key_lem : (i : ℕ) → i < n → place_key p rs n t i ≡ distance p t (relay_number rs i) * 2 ^ 32 + i
  unfolding key_from distance relay_positions
  place_key_lem i h = rw (array_at (λ i. p.relay_at (relay_number rs i)) n i few h)

  pub key_order : (i l : ℕ) → i < n → l < n → SameOrder (place_key p rs n t i) (place_key p rs n t l)
      (key p t (relay_number rs i)) (key p t (relay_number rs l))
  unfolding key
  key_order i l h k =
      let x : place_key p rs n t i ≡ distance p t (relay_number rs i) * 2 ^ 32 + i = place_key_lem i h in
      let y : place_key p rs n t l ≡ distance p t (relay_number rs l) * 2 ^ 32 + l = place_key_lem l k in
      let u : relay_number rs i < 2 ^ 32 = a.small i h in
      let v : relay_number rs l < 2 ^ 32 = a.small l k in
      split (ltb i l)
      (λ s. omega (arith, ltb-true i l s, a.up i l (ltb-true i l s) k))
      (λ s. split (ltb l i)
      (λ r. omega (arith, ltb-true l i r, a.up l i (ltb-true l i r) h))
      (λ r. let e : i ≡ l = omega (arith, ltb-false i l s, ltb-false l i r) in omega
      (arith, ap (relay_number rs) e, ap (λ (j : ℕ). distance p t (relay_number rs j)) e)))
