-- What a find promises of a tablet that is there (`find_found`).
-- Assumes nothing.
use mathlib.Core.Path.{◌≡◌, sym, ap, ◌∙◌}
use mathlib.Core.List.{List, []}
use Prim.Native.Nat.{ℕ}
use native.Mathlib.Omega.{arith}
use Rattle.ring.specs.Scheme.{positions}
use Rattle.ring.specs.declared.TabletNumber.{TabletNumber}
use Rattle.rule.specs.declared.Move.{Move}
use Rattle.rule.specs.declared.Refusal.TheVariants.{Done}
use Rattle.rule.specs.declared.Call.TheVariants.{Find}
use Rattle.rule.specs.Rule.{Ring}
use Rattle.rule.specs.Refusals.{is_done, replied}
use Rattle.rule.specs.Calls as Calls
use Rattle.rule.specs.Calls.{edited, moves, passed, relay_of, refusal, accepted}
use Rattle.rule.specs.Facts.{Right}
use Rattle.rule.proofs.Outcomes.{find_after, find_moves}
use Rattle.survey.specs.declared.Survey.{Survey}
use Rattle.meaning.specs.Meaning.{ring_of, lent_of}
use Rattle.write.specs.Tables.{listed}
use Rattle.write.proofs.Listed.{listed_none}
use Rattle.promise.specs.Promise.{Answers}
use Rattle.call_start.specs.Promise.{lists, after}
use Rattle.call_start.specs.Start.{Start}
use Rattle.call_start.proofs.Refusals.{start_rises, start_ring, all_passed, accepted_answers}
use Rattle.call_start.proofs.Stays.{relays_stay, tablets_stay}
use Rattle.seat.specs.declared.Seat.{Seat}
use Rattle.seat.specs.Seat.{Found, seat_refusal}
use Rattle.seat.proofs.Replies.{missing_find, found_relay, found_passed}

module _ {s : ℕ} {rs ts : List ℕ} {v : Survey} (b : Start s rs ts v.n v.m v) (t : TabletNumber) where
  abbrev ring : Ring
  ring = ring_of rs ts

  right : Right (positions s) (ring_of rs ts)
  right = (start_rises b).ring

  no_moves : moves (positions s) (ring_of rs ts) (Find t) ≡ []
  no_moves = find_moves (positions s) ring right t

  module _ {seat : Seat} (d : seat_refusal ts v t.0 ≡ Done) (f : Found ts v t.0 seat) (ms : List ℕ) where
    accepts : refusal (positions s) (lent_of s rs ts ms) (ring_of rs ts) (Find t) ≡ Done
    unfolding edited is_done
    accepts =
        all_passed s rs ts ms (Find t) b (ap is_done (missing_find b t (lent_of s rs ts ms) ∙ d))
        right.enough
        (rw no_moves (omega arith))

    pub find_found : Answers (after s rs ts ms (Find t)) (replied Done seat.relay.0 seat.passed 0)
        (lists rs ts ms)
    find_found =
        accepted_answers s rs ts ms (Find t) accepts _ rs ts ms
        (unfold accepted relay_of passed in (rw (
          found_relay b t f,
          found_passed b t f,
          no_moves,
        )))
        (relays_stay b (Calls.after (positions s) ring (Find t))
        (unfold Calls.after edited in (ap (λ (g : Ring). g.relays) (start_ring b))))
        (tablets_stay b (Calls.after (positions s) ring (Find t))
        (find_after (positions s) ring right t ∙ ap (λ (g : Ring). g.tablets) (start_ring b)))
        (listed_none ms ∙ ap (λ (k : List Move). listed k ms) (sym no_moves))
