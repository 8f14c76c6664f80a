-- What a withdrawal promises of a tablet that is there.
--   withdraw_short     the move list is too short for those who move
--   withdraw_fillers   it is not, and they can sit down
--   withdraw_done      they have, and the tablet is taken out
-- Assumes nothing.
use mathlib.Core.Bool.{true, false}
use mathlib.Core.Path.{◌≡◌, refl, sym, ap, ◌∙◌}
use mathlib.Core.List.{List}
use Prim.Native.Nat.{ℕ, ◌/◌, ◌≤◌, ◌<◌}
use native.Mathlib.Omega.{arith}
use lib.ListN.{length, take}
use lib.Seq.{length-take-le}
use Rattle.ring.specs.Scheme.{positions}
use Rattle.ring.specs.declared.TabletNumber.{TabletNumber}
use Rattle.rule.specs.declared.Move.{Move}
use Rattle.rule.specs.declared.Refusal.TheVariants.{Done, MoveListTooShort}
use Rattle.rule.specs.declared.Call.TheVariants.{Withdraw}
use Rattle.rule.specs.Entry.{Entry, has, beside_of, delete, total}
use Rattle.rule.specs.Rule.{Ring}
use Rattle.rule.specs.Sweeps.{seated}
use Rattle.rule.specs.Refusals.{is_done, replied, bare_reply, first_bar}
use Rattle.rule.specs.Calls as Calls
use Rattle.rule.specs.Calls.{edited, moves, passed, relay_of, refusal, wrong_numbers, accepted}
use Rattle.rule.proofs.Counts.{length_delete}
use Rattle.rule.proofs.Demand3.{has_sits}
use Rattle.rule.proofs.Outcomes.{withdraw_after, withdraw_moves}
use Rattle.tables.specs.Table.{tablet_number, tablet_relay}
use Rattle.survey.specs.declared.Survey.{Survey}
use Rattle.meaning.specs.Meaning.{relays_in, tablets_in, ring_of, lent_of}
use Rattle.meaning.proofs.Places.{has_place}
use Rattle.write.specs.Tables.{flat, filled, tablet_table, listed}
use Rattle.write.proofs.Filled.{table_taken}
use Rattle.promise.specs.Promise.{Answers}
use Rattle.call_start.specs.Promise.{lists, after}
use Rattle.call_start.specs.Start.{Start}
use Rattle.call_start.proofs.Refusals.{start_rises, start_ring, list_refused, all_passed, refused_answers, accepted_answers}
use Rattle.call_start.proofs.Stays.{tablets_whole, tablets_zeros, relays_stay}
use Rattle.seat.specs.declared.Seat.{Seat}
use Rattle.seat.specs.Seat.{Found, seat_refusal}
use Rattle.seat.proofs.Replies.{missing_withdraw, found_relay, found_passed}
use Rattle.holes.specs.declared.Movers.{Movers}
use Rattle.holes.specs.Holes.{MoversAre}
use Rattle.holes.specs.Filled.{moves_of, Fillers, Filled}
use Rattle.holes.proofs.Seated.{length_moves}
use Rattle.withdraw.proofs.Known.{right}
use Rattle.withdraw.proofs.Chained.{chain_moves}

module _ {s : ℕ} {rs ts : List ℕ} {v : Survey} (b : Start s rs ts v.n v.m v) (t : TabletNumber) {seat : Seat}
    (d : seat_refusal ts v t.0 ≡ Done) (stands : Found ts v t.0 seat) where
  abbrev ring : Ring
  ring = ring_of rs ts

  -- by how many relays and tablets were found
  abbrev g : Ring
  g = record { relays = relays_in rs v.n; tablets = tablets_in ts v.m }

  there : has (tablets_in ts v.m) t.0 ≡ true
  there = has_place (tablet_number ts) (tablet_relay ts) v.m t.0 seat.at stands.below stands.number

  numbers_fine : (ms : List ℕ) → is_done (first_bar (wrong_numbers (lent_of s rs ts ms) (ring_of rs ts) (Withdraw t))) ≡ true
  unfolding is_done
  numbers_fine ms = ap is_done (missing_withdraw b t (lent_of s rs ts ms) ∙ d)

  -- one tablet less does not need more room
  enough : length (edited (ring_of rs ts) (Withdraw t)).tablets ≤ total (edited (ring_of rs ts) (Withdraw t)).relays
  unfolding edited
  enough =
      rw (start_ring b)
      (omega (
        arith,
        (right b).enough,
        length_delete t.0 (beside_of (tablets_in ts v.m) t.0) (tablets_in ts v.m) 0
            (right b).tablets.up (has_sits (tablets_in ts v.m) 0 t.0 (right b).tablets.up there),
      ))

  module _ {chain : Movers} (c : MoversAre v seat.at chain) (ms : List ℕ) where
    abbrev moved_by_chain : List Move
    moved_by_chain = moves_of ts (tablet_relay ts seat.at) (take chain.count chain.places)

    moves_are : moves (positions s) (ring_of rs ts) (Withdraw t) ≡ moves_of ts (tablet_relay ts seat.at)
        (take chain.count chain.places)
    moves_are =
        ap (λ (x : Ring). moves (positions s) x (Withdraw t)) (start_ring b)
        ∙ withdraw_moves (positions s) g (right b) t there
        ∙ rw (← stands.number) (sym (chain_moves b seat.at stands.below))
        ∙ ap (moves_of ts (tablet_relay ts seat.at)) (sym c.are)

    count_is : length (moves (positions s) (ring_of rs ts) (Withdraw t)) ≡ length (take chain.count chain.places)
    count_is = ap length moves_are ∙ length_moves ts (tablet_relay ts seat.at) (take chain.count chain.places)

    pub withdraw_short : length ms / 3 < length (take chain.count chain.places)
        → Answers (after s rs ts ms (Withdraw t)) (bare_reply MoveListTooShort) (lists rs ts ms)
        × (is_done MoveListTooShort ≡ false)
    unfolding is_done
    withdraw_short l = (
      refused_answers s rs ts ms (Withdraw t) MoveListTooShort
          (list_refused s rs ts ms (Withdraw t) b (numbers_fine ms) enough (unfold lent_of in (rw count_is l))) refl
          (bare_reply MoveListTooShort) refl,
      refl,
    )

    module _ (l : length (take chain.count chain.places) ≤ length ms / 3) where
      pub withdraw_fillers : Fillers ts ms v.m (take chain.count chain.places)
      withdraw_fillers =
          record {
            there = (start_rises b).tablets_fit.there;
            numbers = (start_rises b).tablets;
            few = omega (arith, c.few, length-take-le chain.count chain.places (omega (arith, c.few, c.size)));
            below = c.climbs.below;
            up = c.climbs.up;
            long = omega arith;
          }

      module _ {ts' ms' : List ℕ} (k : Filled ts ts' v.m seat.at
          (moves_of ts (tablet_relay ts seat.at) (take chain.count chain.places))
          × (ms' ≡ listed (moves_of ts (tablet_relay ts seat.at) (take chain.count chain.places)) ms)) where
        tablets_after : (Calls.after (positions s) (ring_of rs ts) (Withdraw t)).tablets
            ≡ seated moved_by_chain (delete (tablet_number ts seat.at) (tablets_in ts v.m))
        tablets_after =
            ap (λ (x : Ring). (Calls.after (positions s) x (Withdraw t)).tablets) (start_ring b)
            ∙ withdraw_after (positions s) g (right b) t there
            ∙ rw (← stands.number) (ap (λ (x : List Move). seated x
            (delete (tablet_number ts seat.at) (tablets_in ts v.m))) (sym (chain_moves b seat.at stands.below)))
            ∙ ap (λ (x : List ℕ). seated (moves_of ts (tablet_relay ts seat.at) x)
            (delete (tablet_number ts seat.at) (tablets_in ts v.m))) (sym c.are)

        pub withdraw_done : Answers (after s rs ts ms (Withdraw t))
            (replied Done seat.relay.0 seat.passed (length (take chain.count chain.places))) (lists rs ts' ms')
        withdraw_done =
            accepted_answers s rs ts ms (Withdraw t)
            (all_passed s rs ts ms (Withdraw t) b (numbers_fine ms) enough (unfold lent_of in (rw count_is l)))
            _ rs ts' ms'
            (unfold accepted relay_of passed in (rw (found_relay b t stands, found_passed b t stands, count_is)))
            (relays_stay b (Calls.after (positions s) ring (Withdraw t))
            (unfold Calls.after edited in (ap (λ (x : Ring). x.relays) (start_ring b))))
            (unfold tablet_table in (table_taken k.0.took (tablets_whole b) (omega (arith, stands.below))
            (start_rises b).tablets_fit.there (tablets_zeros b)
            ∙ ap (λ (x : List Entry). filled (length ts) (flat x)) (sym tablets_after)))
            (k.1 ∙ ap (λ (x : List Move). listed x ms) (sym moves_are))
