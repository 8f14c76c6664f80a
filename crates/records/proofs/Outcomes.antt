-- What an outcome says of its moves, and of what is lent once it is settled.
--   outcome_count, outcome_fits                          its reply counts its moves, and the list has room for them
--   left_reply, left_relays, left_tablets                the reply and the tables are the same whatever list of moves was lent
--   left_moves                                           the list begins with the moves, accepted or refused
-- Assumes nothing.
use mathlib.Core.List.{List, []}
use mathlib.Core.Path.{◌≡◌}
use Prim.Native.Nat.{ℕ, ◌≤◌}
use native.Mathlib.Omega.{arith}
use lib.ListN.{length}
use Rattle.ring.specs.Scheme.{Positions}
use Rattle.ring.proofs.Tests.{split}
use Rattle.rule.specs.declared.Call.{Call}
use Rattle.rule.specs.declared.Move.{Move}
use Rattle.rule.specs.Rule.{Ring}
use Rattle.rule.specs.Refusals.{is_done}
use Rattle.rule.specs.Calls.{Lent, Outcome, refusal, accepted, declined, outcome}
use Rattle.rule.proofs.Accepted.{accepted_is, outcome_accepted, outcome_declined}
use Rattle.promise.specs.Promise.{settled}
use Rattle.call_start.specs.Promise.{written, left}

module _ (p : Positions) (m : Lent) (g : Ring) (c : Call) where
  abbrev o : Outcome
  o = outcome p m g c

  pub outcome_count : o.reply.moves ≡ length o.moves
  unfolding accepted declined
  outcome_count =
      split (is_done (refusal p m g c)) (λ d. rw (outcome_accepted p m g c d)) (λ d. rw (outcome_declined p m g c d))

  pub outcome_fits : length o.moves ≤ m.move_places
  unfolding accepted declined
  outcome_fits =
      split (is_done (refusal p m g c))
      (λ d. rw (outcome_accepted p m g c d) (accepted_is p m g c d).list)
      (λ d. rw (outcome_declined p m g c d) (omega arith))

  pub left_moves : {M : Type 0} (write : List Move → List M → List M) (rs ts : List ℕ) (ms : List M) → ms ≡ write [] ms
      → (left write rs ts ms o).lent.moves ≡ write o.moves ms
  unfolding accepted declined left settled written is_done
  left_moves write rs ts ms none =
      split (is_done (refusal p m g c))
      (λ d. rw (outcome_accepted p m g c d))
      (λ d. rw (outcome_declined p m g c d, d, settled) none)

module _ {M : Type 0} (write : List Move → List M → List M) (rs ts : List ℕ) (ms : List M) (o : Outcome) where
  pub left_reply : (left write rs ts ms o).reply ≡ o.reply
  unfolding left settled written
  left_reply = split (is_done o.reply.refusal) (λ d. rw (d, settled)) (λ d. rw (d, settled))

  module _ {N : Type 0} (write' : List Move → List N → List N) (ms' : List N) where
    pub left_relays : (left write rs ts ms o).lent.relays ≡ (left write' rs ts ms' o).lent.relays
    unfolding left settled written
    left_relays = split (is_done o.reply.refusal) (λ d. rw (d, settled)) (λ d. rw (d, settled))

    pub left_tablets : (left write rs ts ms o).lent.tablets ≡ (left write' rs ts ms' o).lent.tablets
    unfolding left settled written
    left_tablets = split (is_done o.reply.refusal) (λ d. rw (d, settled)) (λ d. rw (d, settled))
