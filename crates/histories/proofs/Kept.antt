-- What a call leaves in the lent tables.
--   call_stands                  an accepted call: right tables, which mean the ring afterwards
--   call_means, call_lengths     any call: they mean the outcome's ring, and are as long as before
--   call_reply, call_refusal     the reply is the outcome's, and its refusal the one that is given
-- Assumes nothing.
use mathlib.Core.Bool.{true}
use mathlib.Core.List.{List}
use mathlib.Core.Path.{◌≡◌, refl, sym, ap, ◌∙◌}
use Prim.Native.Nat.{ℕ, ◌^◌, ◌≤◌, ◌<◌}
use native.Mathlib.Omega.{arith}
use lib.ListN.{length}
use Rattle.ring.specs.Scheme.{Positions, positions}
use Rattle.ring.proofs.Tests.{split}
use Rattle.rule.specs.declared.Call.{Call}
use Rattle.rule.specs.Rule as Rule
use Rattle.rule.specs.Refusals.{is_done}
use Rattle.rule.specs.Calls as Calls
use Rattle.rule.specs.Facts.{Right}
use Rattle.rule.specs.Applies.{Accepted}
use Rattle.rule.proofs.Right.{right_is, right_from}
use Rattle.rule.proofs.Lowest.{done_is}
use Rattle.rule.proofs.Accepted.{accepted_is, Edited, edited_tables, after_length, after_right, outcome_accepted, outcome_declined}
use Rattle.tables.specs.Table.{relay_places, tablet_places}
use Rattle.meaning.specs.Meaning.{ring_of, tables_right, lent_of}
use Rattle.meaning.proofs.Fit.{Fit, fit_is}
use Rattle.write.specs.Tables.{listed}
use Rattle.call_start.specs.Promise.{outcome_of, written, after}
use Rattle.call_start.proofs.Refusals.{after_accepted, after_declined}
use Rattle.histories.specs.Runs.{Stands}
use Rattle.histories.proofs.Again.{ring_again, fit_again, lengths_again}
use Rattle.histories.proofs.Rooms.{relays_room, tablets_room}

module _ (s : ℕ) (rs ts ms : List ℕ) (c : Call) where
  abbrev p : Positions
  p = positions s

  abbrev lent : Calls.Lent
  lent = lent_of s rs ts ms

  abbrev g : Rule.Ring
  g = ring_of rs ts

  pub call_reply : (after s rs ts ms c).reply ≡ (outcome_of s rs ts ms c).reply
  unfolding outcome_of written Calls.declined
  call_reply =
      split (is_done (Calls.refusal p lent g c))
      (λ d. rw (after_accepted s rs ts ms c d, outcome_accepted p lent g c d))
      (λ d. rw (after_declined s rs ts ms c d, outcome_declined p lent g c d))

  -- the reply's refusal is the one that is given
  pub call_refusal : (after s rs ts ms c).reply.refusal ≡ Calls.refusal p lent g c
  unfolding written Calls.accepted
  call_refusal =
      split (is_done (Calls.refusal p lent g c))
      (λ d. rw (after_accepted s rs ts ms c d) (sym (done_is (Calls.refusal p lent g c) d)))
      (λ d. rw (after_declined s rs ts ms c d))

  -- ---- an accepted call

  module _ (done : is_done (Calls.refusal p lent g c) ≡ true) (small : Calls.subject c < 2 ^ 32) where
    a : Accepted p lent g c
    a = accepted_is p lent g c done

    fits : Fit rs ts
    unfolding lent_of
    fits = fit_is rs ts a.fit

    stands_accepted : Stands s rs ts (Calls.after p g c) (written listed rs ts ms (Calls.accepted p g c)).lent.relays
        (written listed rs ts ms (Calls.accepted p g c)).lent.tablets
    unfolding written Calls.accepted Calls.after tables_right
    stands_accepted =
        let e : Edited g c = edited_tables p lent g c (right_is p g a.tables) a.numbers small in
        let r : Right p (Calls.after p g c) = after_right p g c e a.enough in
        let room_for_relays : length (Calls.after p g c).relays ≤ relay_places rs = relays_room s rs ts ms c a.numbers in
        let room_for_tablets : length (Calls.after p g c).tablets ≤ tablet_places ts =
        omega (arith, after_length p g c e a.enough, tablets_room s rs ts ms c a.numbers) in
        record {
          ring = ring_again rs ts (Calls.after p g c) fits.relays fits.tablets r.relays
              r.tablets room_for_relays room_for_tablets;
          right = rw (
            fit_again rs ts (Calls.after p g c) fits.relays fits.tablets r.relays
                r.tablets room_for_relays room_for_tablets,
            ring_again rs ts (Calls.after p g c) fits.relays fits.tablets
                r.relays r.tablets room_for_relays room_for_tablets,
          )
              (right_from p (Calls.after p g c) r);
          relays = (lengths_again rs ts (Calls.after p g c) fits.relays fits.tablets r.relays
              r.tablets room_for_relays room_for_tablets).0;
          tablets = (lengths_again rs ts (Calls.after p g c) fits.relays fits.tablets r.relays
              r.tablets room_for_relays room_for_tablets).1;
        }

    pub call_stands : Stands s rs ts (Calls.after p g c) (after s rs ts ms c).lent.relays
        (after s rs ts ms c).lent.tablets
    call_stands = rw (after_accepted s rs ts ms c done) stands_accepted

  -- ---- any call

  -- what the tables mean afterwards is the outcome's ring
  pub call_means : Calls.subject c < 2 ^ 32 → ring_of (after s rs ts ms c).lent.relays
      (after s rs ts ms c).lent.tablets ≡ (outcome_of s rs ts ms c).ring
  unfolding outcome_of Calls.accepted Calls.declined
  call_means small =
      split (is_done (Calls.refusal p lent g c))
      (λ d. (call_stands d small).ring ∙ sym (ap (λ (o : Calls.Outcome). o.ring) (outcome_accepted p lent g c d)))
      (λ d. rw (after_declined s rs ts ms c d, outcome_declined p lent g c d))

  pub call_lengths : Calls.subject c < 2 ^ 32
      → (length (after s rs ts ms c).lent.relays ≡ length rs)
      × (length (after s rs ts ms c).lent.tablets ≡ length ts)
  call_lengths small =
      split (is_done (Calls.refusal p lent g c))
      (λ d. ((call_stands d small).relays, (call_stands d small).tablets))
      (λ d. rw (after_declined s rs ts ms c d) (refl, refl))
