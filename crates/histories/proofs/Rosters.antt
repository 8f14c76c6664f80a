-- A roster that is taken leaves right tables, under the scheme that it names, and they mean what it says.
--   read_stands
-- Assumes nothing.
use mathlib.Core.Bool.{Bool, true, false, not, ◌&&◌}
use mathlib.Core.List.{List, [], ◌∷◌}
use mathlib.Core.Path.{◌≡◌, refl}
use Prim.Native.Nat.{ℕ, ◌-◌, ◌≤◌}
use native.Mathlib.Omega.{arith}
use borrow.Author.Tests.{leb-true, not-false}
use lib.Dec.{leb}
use lib.ListN.{length}
use Rattle.ring.specs.Scheme.{known, positions}
use Rattle.ring.proofs.Tests.{and_left, and_right}
use Rattle.rule.specs.declared.Refusal.TheVariants.{SchemeUnknown, RosterShapeWrong, RosterContentWrong, OutputUnfit}
use Rattle.rule.specs.Rule as Rule
use Rattle.rule.specs.Refusals.{is_done, Bar, bar, first_bar}
use Rattle.rule.specs.Facts.{Right}
use Rattle.rule.proofs.Right.{right_is}
use Rattle.rule.proofs.Accepted.{bar_passed}
use Rattle.tables.specs.Table.{relay_places, tablet_places}
use Rattle.tables.specs.Shape.{relay_fits, tablet_fits}
use Rattle.meaning.proofs.Places.{length_places}
use Rattle.layout.specs.Roster.{shape_right, relay_distance, relay_count, tablet_distance, tablet_count, roster_scheme, block, roster_ring}
use Rattle.roster.specs.Content.{numbered, ring_right, content_right, tables_fit}
use Rattle.promise.proofs.OneAnswer.{settled_done}
use Rattle.roster.specs.Reading.{refusal, refused_reading, taken, after}
use Rattle.meaning.specs.Meaning.{tables_right}
use Rattle.histories.specs.Runs.{Stands}
use Rattle.histories.proofs.Again.{ring_again, fit_again, lengths_again}

block_length : (b : List ℕ) (at count : ℕ) → length (block b at count) ≡ count
unfolding block
block_length b at count = length_places _ _ count

module _ (b rs ts : List ℕ) (done : is_done (refusal b rs ts) ≡ true) where
  abbrev bars₄ : List Bar
  bars₄ = bar (not (content_right b)) RosterContentWrong ∷ []

  abbrev bars₃ : List Bar
  bars₃ = bar (not (tables_fit (relay_count b) (tablet_count b) rs ts)) OutputUnfit ∷ bars₄

  abbrev bars₂ : List Bar
  bars₂ = bar (not (known (roster_scheme b))) SchemeUnknown ∷ bars₃

  passed : (tables_fit (relay_count b) (tablet_count b) rs ts ≡ true) × (content_right b ≡ true)
  unfolding refusal is_done
  passed =
      let h₁ : (not (shape_right b) ≡ false) × (is_done (first_bar bars₂) ≡ true) = bar_passed
      (not (shape_right b)) RosterShapeWrong bars₂ refl done in
      let h₂ : (not (known (roster_scheme b)) ≡ false) × (is_done (first_bar bars₃) ≡ true) = bar_passed
      (not (known (roster_scheme b))) SchemeUnknown bars₃ refl h₁.1 in
      let h₃ : (not (tables_fit (relay_count b) (tablet_count b) rs ts) ≡ false) × (is_done (first_bar bars₄) ≡ true) =
      bar_passed (not (tables_fit (relay_count b) (tablet_count b) rs ts)) OutputUnfit bars₄ refl h₂.1 in
      let h₄ : (not (content_right b) ≡ false) × (is_done (first_bar []) ≡ true) = bar_passed
      (not (content_right b)) RosterContentWrong [] refl h₃.1 in
      (not-false (tables_fit (relay_count b) (tablet_count b) rs ts) h₃.0, not-false (content_right b) h₄.0)

  abbrev g : Rule.Ring
  g = roster_ring b

  abbrev enough_relays : Bool
  enough_relays = leb (relay_count b) (relay_places rs)

  abbrev enough_tablets : Bool
  enough_tablets = leb (tablet_count b) (tablet_places ts)

  relays_fit_lem : relay_fits rs ≡ true
  unfolding tables_fit
  relays_fit_lem = and_left (relay_fits rs) (tablet_fits ts && (enough_relays && enough_tablets)) passed.0

  rest : (tablet_fits ts && (enough_relays && enough_tablets)) ≡ true
  unfolding tables_fit
  rest = and_right (relay_fits rs) (tablet_fits ts && (enough_relays && enough_tablets)) passed.0

  tablets_fit_lem : tablet_fits ts ≡ true
  tablets_fit_lem = and_left (tablet_fits ts) (enough_relays && enough_tablets) rest

  relays_room : length g.relays ≤ relay_places rs
  unfolding roster_ring
  relays_room =
      omega (
        arith,
        block_length b (length b - relay_distance b) (relay_count b),
        leb-true (relay_count b) (relay_places rs)
            (and_left enough_relays enough_tablets (and_right (tablet_fits ts) (enough_relays && enough_tablets) rest)),
      )

  tablets_room : length g.tablets ≤ tablet_places ts
  unfolding roster_ring
  tablets_room =
      omega (
        arith,
        block_length b (length b - tablet_distance b) (tablet_count b),
        leb-true (tablet_count b)
            (tablet_places ts) (and_right enough_relays enough_tablets
            (and_right (tablet_fits ts) (enough_relays && enough_tablets) rest)),
      )

  ruled : Rule.right (positions (roster_scheme b)) g ≡ true
  unfolding content_right ring_right
  ruled =
      and_right (numbered g.tablets) (Rule.right (positions (roster_scheme b)) g)
      (and_right (numbered g.relays) (numbered g.tablets && Rule.right (positions (roster_scheme b)) g)
      passed.1)

  r : Right (positions (roster_scheme b)) g
  r = right_is (positions (roster_scheme b)) g ruled

  after_taken : after b rs ts ≡ taken b rs ts
  unfolding after
  after_taken = settled_done (refusal b rs ts) (refused_reading (refusal b rs ts)) (rs, ts) (taken b rs ts) done

  pub read_stands : Stands (roster_scheme b) rs ts g (after b rs ts).lent.0 (after b rs ts).lent.1
  unfolding taken tables_right
  read_stands =
      rw after_taken
      (record {
        ring = ring_again rs ts g relays_fit_lem tablets_fit_lem r.relays r.tablets relays_room tablets_room;
        right = rw (
          fit_again rs ts g relays_fit_lem tablets_fit_lem r.relays r.tablets relays_room tablets_room,
          ring_again rs ts g relays_fit_lem tablets_fit_lem r.relays r.tablets relays_room tablets_room,
        ) ruled;
        relays = (lengths_again rs ts g relays_fit_lem tablets_fit_lem r.relays r.tablets relays_room tablets_room).0;
        tablets = (lengths_again rs ts g relays_fit_lem tablets_fit_lem r.relays r.tablets relays_room tablets_room).1;
      })
