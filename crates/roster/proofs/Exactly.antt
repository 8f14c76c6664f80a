-- A roster of right shape and entries, of a known scheme and with fit tables to fill, is taken exactly when its places are the rule's under its
-- trailer's scheme (document 01, "Roster file").
--   taken_placed, placed_taken
-- Assumes nothing.
use mathlib.Core.Bool.{Bool, true, false, ◌&&◌}
use mathlib.Core.List.{List, [], ◌∷◌}
use mathlib.Core.Option.{some}
use mathlib.Core.Path.{◌≡◌, refl, sym, ap, ◌∙◌}
use Prim.Native.Nat.{ℕ, ◌≤◌}
use native.Mathlib.Omega.{arith}
use borrow.Author.Tests.{ltb-true, lt-ltb}
use lib.Dec.{ltb, leb}
use lib.ListN.{length}
use Rattle.ring.specs.Clockwise.{key}
use Rattle.ring.specs.Scheme.{known, Positions, positions}
use Rattle.ring.proofs.Tests.{and_left, and_right}
use Rattle.rule.specs.Entry.{Entry, numbers, total}
use Rattle.rule.specs.Rule.{Ring, placement, rising, right}
use Rattle.rule.specs.Rooms.{fill}
use Rattle.rule.specs.Refusals.{is_done, first_bar}
use Rattle.rule.specs.Facts.{Table, Right}
use Rattle.rule.proofs.Placements.{placement_fill}
use Rattle.rule.proofs.Right.{table_is, right_is, right_from, placed_is, length_numbers}
use Rattle.layout.specs.Roster.{shape_right, relay_count, tablet_count, roster_scheme, roster_ring}
use Rattle.roster.specs.Content.{numbered, ring_right, content_right, tables_fit, Entries}
use Rattle.roster.specs.Reading.{refusal}

-- numbers that rise are not zero
rising_numbered : (low : ℕ) (es : List Entry) → rising low es ≡ true → numbered es ≡ true
unfolding rising numbered
rising_numbered low [] h = refl
rising_numbered low (e ∷ es) h =
    let a : Bool = ltb low e.number in
    let b : Bool = leb e.number 4294967295 in
    let c : Bool = rising e.number es in
    rw (lt-ltb 0 e.number (omega (arith, ltb-true low e.number (and_left a (b && c) h))))
    (rising_numbered e.number es (and_right b c (and_right a (b && c) h)))

-- right entries make right tables exactly when they are the rule's
module _ (p : Positions) (g : Ring) (e : Entries g) where
  right_placed : right p g ≡ true → placement p g.relays (numbers g.tablets) ≡ some g.tablets
  right_placed h =
      let r : Right p g = right_is p g h in
      placement_fill p g.relays 0 r.relays.up r.relays.small (numbers g.tablets)
      (omega (arith, r.enough, length_numbers g.tablets))
      ∙ ap some (sym r.ruled)

  placed_right : placement p g.relays (numbers g.tablets) ≡ some g.tablets → right p g ≡ true
  placed_right h =
      let rs : Table g.relays = table_is g.relays e.relays in
      let d : (length (numbers g.tablets) ≤ total g.relays)
      × (g.tablets ≡ fill (key p) g.relays (numbers g.tablets)) =
      placed_is p g.relays rs (numbers g.tablets) g.tablets h in
      right_from p g
      (record {
        relays = rs;
        limits = e.limits;
        tablets = table_is g.tablets e.tablets;
        enough = omega (arith, d.0, length_numbers g.tablets);
        ruled = d.1;
      })

module _ (b rs ts : List ℕ) where
  abbrev p : Positions
  p = positions (roster_scheme b)

  abbrev g : Ring
  g = roster_ring b

  module _ (shape : shape_right b ≡ true) (scheme : known (roster_scheme b) ≡ true)
      (fit : tables_fit (relay_count b) (tablet_count b) rs ts ≡ true) (e : Entries g) where
    content_is : content_right b ≡ right p g
    unfolding content_right ring_right
    content_is = rw (rising_numbered 0 g.relays e.relays, rising_numbered 0 g.tablets e.tablets)

    refusal_is : (c : Bool) → content_right b ≡ c → is_done (refusal b rs ts) ≡ c
    unfolding refusal first_bar is_done
    refusal_is true h = rw (shape, scheme, fit, h)
    refusal_is false h = rw (shape, scheme, fit, h)

    pub taken_placed : is_done (refusal b rs ts) ≡ true → placement p g.relays (numbers g.tablets)
        ≡ some g.tablets
    taken_placed d = right_placed p g e (sym content_is ∙ sym (refusal_is (content_right b) refl) ∙ d)

    pub placed_taken : placement p g.relays (numbers g.tablets) ≡ some g.tablets → is_done (refusal b rs ts)
        ≡ true
    placed_taken h = refusal_is true (content_is ∙ placed_right p g e h)
