-- A right shape.
--   shape_is, shape_ring    what it says, and where its blocks are then
-- Assumes nothing.
use mathlib.Core.Bool.{Bool, true, ◌&&◌}
use mathlib.Core.List.{List}
use mathlib.Core.Path.{◌≡◌, sym}
use Prim.Native.Nat.{ℕ, ◌+◌, ◌*◌, ◌-◌}
use native.Mathlib.Omega.{arith}
use borrow.Author.Tests.{leb-true, eqb-true}
use lib.Dec.{eqb, leb}
use lib.ListN.{length}
use Rattle.ring.specs.Most.{most_relays, most_tablets}
use Rattle.ring.proofs.Tests.{and_left, and_right}
use Rattle.layout.specs.Roster.{trailer_bytes, relay_distance, relay_count, tablet_distance, tablet_count}
use Rattle.layout.specs.Roster.{entry_bytes, shaped, shape_right, block, roster_ring, Shape}

pub shape_is : (b : List ℕ) → shape_right b ≡ true → Shape b
unfolding shape_right shaped
shape_is b e =
    let k₁ : Bool = leb trailer_bytes (length b) in
    let k₂ : Bool = leb (relay_count b) most_relays in
    let k₃ : Bool = leb (tablet_count b) most_tablets in
    let k₄ : Bool = eqb (tablet_distance b) (trailer_bytes + entry_bytes * tablet_count b) in
    let k₅ : Bool = eqb (relay_distance b) (tablet_distance b + entry_bytes * relay_count b) in
    let k₆ : Bool = eqb (length b) (relay_distance b) in
    let e₂ : (k₂ && (k₃ && (k₄ && (k₅ && k₆)))) ≡ true = and_right k₁ (k₂ && (k₃ && (k₄ && (k₅ && k₆)))) e in
    let e₃ : (k₃ && (k₄ && (k₅ && k₆))) ≡ true = and_right k₂ (k₃ && (k₄ && (k₅ && k₆))) e₂ in
    let e₄ : (k₄ && (k₅ && k₆)) ≡ true = and_right k₃ (k₄ && (k₅ && k₆)) e₃ in
    let e₅ : (k₅ && k₆) ≡ true = and_right k₄ (k₅ && k₆) e₄ in
    let back₂ : tablet_distance b ≡ trailer_bytes + entry_bytes * tablet_count b = eqb-true _ _
    (and_left k₄ (k₅ && k₆) e₄) in
    let back : relay_distance b ≡ tablet_distance b + entry_bytes * relay_count b = eqb-true _ _ (and_left k₅ k₆ e₅) in
    let len : length b ≡ relay_distance b = eqb-true _ _ (and_right k₅ k₆ e₅) in
    record {
      relays = leb-true (relay_count b) most_relays (and_left k₂ (k₃ && (k₄ && (k₅ && k₆))) e₂);
      tablets = leb-true (tablet_count b) most_tablets (and_left k₃ (k₄ && (k₅ && k₆)) e₃);
      size = omega arith;
      relays_back = sym len;
      tablets_back = back₂;
    }

-- the relay block starts the bytes, and the tablet block comes behind it
pub shape_ring : (b : List ℕ) → Shape b
    → roster_ring b ≡ record {
      relays = block b 0 (relay_count b);
      tablets = block b (entry_bytes * relay_count b)
          (tablet_count b);
    }
unfolding roster_ring
shape_ring b s =
    let p : length b - relay_distance b ≡ 0 = omega arith in
    let q : length b - tablet_distance b ≡ entry_bytes * relay_count b = omega arith in
    rw (p, q)
