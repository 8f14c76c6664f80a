-- The relays written beside the tablets are those that the loops find exactly where there is a placement and it is this.
--   placed_is, placed_from     the loops' test of every tablet, and the rule
--   ruled_found                where it is the rule's, each tablet's relay is found and is the one written there
-- Assumes nothing.
use mathlib.Core.Bool.{Bool, true}
use mathlib.Core.Path.{◌≡◌, refl, sym, ap, ◌∙◌}
use mathlib.Core.List.{List}
use Prim.Native.Nat.{ℕ, ◌≤◌, ◌<◌}
use native.Mathlib.Omega.{arith}
use borrow.Author.Tests.{ltb-true, ltb-false, eqb-true}
use lib.Dec.{eqb, ltb}
use Rattle.ring.specs.Most.{most_relays}
use Rattle.ring.specs.Scheme.{Positions}
use Rattle.ring.proofs.Tests.{split, and_left, and_right}
use Rattle.rule.specs.Entry.{Entry, total, beside_of}
use Rattle.tables.proofs.Loops.{all_at, all_of}
use Rattle.tables.specs.Table.{relay_number, tablet_number, tablet_relay}
use Rattle.tables.specs.Placement.{room_after, relay_for, placed_at, placed}
use Rattle.tables.proofs.Placed.{placed_there}
use Rattle.meaning.specs.Meaning.{relays_in, tablets_in}
use Rattle.meaning.specs.Ascending.{Ascending}
use Rattle.meaning.specs.Rising.{Ruled}
use Rattle.meaning.proofs.Places.{places_ext, beside_places}
use Rattle.meaning.proofs.Choice.{first_beyond}
use Rattle.meaning.proofs.Run.{seated, run_first, run_left, run_fill}

-- tablet j's relay is at one of the n places, and is the one written there
pub record Found (p : Positions) (rs ts : List ℕ) (n j : ℕ) : Type 0 where
  pub below : relay_for p rs ts n j < n
  pub is : relay_number rs (relay_for p rs ts n j) ≡ tablet_relay ts j

found_is : (p : Positions) (rs ts : List ℕ) (n j : ℕ) → placed_at p rs ts n j ≡ true → Found p rs ts n j
unfolding placed_at
found_is p rs ts n j e =
    let i : ℕ = relay_for p rs ts n j in
    let a : Bool = ltb i n in
    let b : Bool = eqb (relay_number rs i) (tablet_relay ts j) in
    record {
      below = ltb-true i n (and_left a b e);
      is = eqb-true (relay_number rs i) (tablet_relay ts j)
          (and_right a b e);
    }

-- so those found for the first k tablets are those written there
pub found_seated : (p : Positions) (rs ts : List ℕ) (n k : ℕ) → ((j : ℕ) → j < k → Found p rs ts n j)
    → seated p rs ts n k ≡ tablets_in ts k
found_seated p rs ts n k f =
    places_ext (tablet_number ts) (λ j. relay_number rs (relay_for p rs ts n j)) (tablet_number ts) (tablet_relay ts) k
    (λ j h. refl) (λ j h. (f j h).is)

module _ (p : Positions) (rs ts : List ℕ) (n m : ℕ) (few : n ≤ most_relays) (a : Ascending (relay_number rs) n) where
  -- where everybody is found there is room for all
  found_enough : ((j : ℕ) → j < m → Found p rs ts n j) → m ≤ total (relays_in rs n)
  unfolding relay_for
  found_enough f =
      let s : ℕ = total (relays_in rs n) in
      split (ltb s m)
      (λ t. absurd (omega (
        arith,
        (f s (ltb-true s m t)).below,
        first_beyond p rs n few a (room_after p rs ts n s) (tablet_number ts s)
            (omega (arith, run_left p rs ts n few a s (omega arith))),
      )))
      (λ t. ltb-false s m t)

  pub placed_is : placed p rs ts n m ≡ true → Ruled p rs ts n m
  unfolding placed
  placed_is e =
      let f : (j : ℕ) → j < m → Found p rs ts n j = λ j h. found_is p rs ts n j (all_at (placed_at p rs ts n) m j e h) in
      let h : m ≤ total (relays_in rs n) = found_enough f in
      record { enough = h; filled = sym (found_seated p rs ts n m f) ∙ run_fill p rs ts n few a m h }

  module _ (b : Ascending (tablet_number ts) m) (r : Ruled p rs ts n m) where
    pub ruled_found : (j : ℕ) → j < m → Found p rs ts n j
    ruled_found j h =
        let e : seated p rs ts n m ≡ tablets_in ts m = run_fill p rs ts n few a m r.enough ∙ sym r.filled in
        record {
          below = (run_first p rs ts n few a j (omega (arith, r.enough))).below;
          is =
              sym (beside_places (λ j. relay_number rs (relay_for p rs ts n j)) b j h)
              ∙ ap (λ (l : List Entry). beside_of l (tablet_number ts j)) e
              ∙ beside_places (tablet_relay ts) b j h;
        }

    pub placed_from : placed p rs ts n m ≡ true
    unfolding placed
    placed_from =
        all_of (placed_at p rs ts n) m (λ j h. placed_there p rs ts n j (relay_for p rs ts n j) refl
        (ruled_found j h).below (ruled_found j h).is)
