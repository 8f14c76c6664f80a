-- What a find and a withdrawal refuse, and reply of the tablet.
--   missing_find, missing_withdraw    the refusals that come of its number
--   seat_refused                      where one applies, the call is refused
--   found_relay, found_passed         its relay, and how many relays it has passed
-- Assumes nothing.
use mathlib.Core.Bool.{false}
use mathlib.Core.Path.{◌≡◌, refl, ◌∙◌}
use mathlib.Core.List.{List}
use Prim.Native.Nat.{ℕ}
use Rattle.ring.specs.Scheme.{positions}
use Rattle.ring.specs.declared.TabletNumber.{TabletNumber}
use Rattle.rule.specs.declared.Refusal.{Refusal}
use Rattle.rule.specs.declared.Call.{Call}
use Rattle.rule.specs.declared.Call.TheVariants.{Withdraw, Find}
use Rattle.rule.specs.Entry.{beside_of}
use Rattle.rule.specs.Refusals.{is_done, bare_reply, first_bar}
use Rattle.rule.specs.Calls.{Lent, wrong_numbers, ahead_of}
use Rattle.tables.specs.Table.{tablet_relay}
use Rattle.survey.specs.declared.Survey.{Survey}
use Rattle.meaning.specs.Meaning.{ring_of, lent_of}
use Rattle.meaning.proofs.Places.{beside_places}
use Rattle.call_start.specs.Start.{Start}
use Rattle.promise.specs.Promise.{Answers}
use Rattle.call_start.specs.Promise.{lists, after}
use Rattle.call_start.proofs.Refusals.{start_rises, start_ring, number_refused, refused_answers}
use Rattle.lookup.specs.Spot.{missing}
use Rattle.seat.specs.declared.Seat.{Seat}
use Rattle.seat.specs.Seat.{Found, seat_refusal}
use Rattle.seat.proofs.Slotted.{ahead_steps}

module _ {s : ℕ} {rs ts : List ℕ} {v : Survey} (b : Start s rs ts v.n v.m v) (t : TabletNumber) where
  pub missing_find : (lent : Lent) → first_bar (wrong_numbers lent (ring_of rs ts) (Find t))
      ≡ seat_refusal ts v t.0
  unfolding wrong_numbers missing
  missing_find lent = rw (start_ring b)

  pub missing_withdraw : (lent : Lent) → first_bar (wrong_numbers lent (ring_of rs ts) (Withdraw t))
      ≡ seat_refusal ts v t.0
  unfolding wrong_numbers missing
  missing_withdraw lent = rw (start_ring b)

  pub seat_refused : {why : Refusal} → (seat_refusal ts v t.0 ≡ why) × (is_done why ≡ false) → (c : Call)
      → ((lent : Lent) → first_bar (wrong_numbers lent (ring_of rs ts) c) ≡ seat_refusal ts v t.0)
      → (ms : List ℕ)
      → Answers (after s rs ts ms c) (bare_reply why) (lists rs ts ms)
  seat_refused {why} w c e ms =
      refused_answers s rs ts ms c why (number_refused s rs ts ms c b why (e (lent_of s rs ts ms) ∙ w.0) w.1) w.1
      (bare_reply why) refl

  module _ {seat : Seat} (f : Found ts v t.0 seat) where
    pub found_relay : beside_of (ring_of rs ts).tablets t.0 ≡ seat.relay.0
    found_relay =
        rw (start_ring b, ← f.number, f.relay)
        (beside_places (tablet_relay ts) (start_rises b).tablets seat.at f.below)

    pub found_passed : ahead_of (positions s) (ring_of rs ts) t.0 ≡ seat.passed
    found_passed = rw (← f.number, f.passed) (ahead_steps b seat.at f.below)
