-- Runs of calls on lent numbers: each call finds the tables and the tally as the one before it left them.
--   run_right        right tables are right after any calls, under the scheme of the last that was accepted
--   run_means        what the numbers mean after a run is what the rule's run of the same calls ends in
-- Assumes nothing.
use mathlib.Core.Bool.{true}
use mathlib.Core.List.{List, [], ◌∷◌}
use mathlib.Core.Path.{◌≡◌, refl, sym, ap, ◌∙◌}
use Prim.Native.Nat.{ℕ, ◌^◌, ◌<◌}
use borrow.Author.Tests.{eq-eqb}
use lib.ListN.{length}
use Rattle.ring.proofs.Tests.{split}
use Rattle.rule.specs.declared.Call.{Call}
use Rattle.rule.specs.declared.Reply.{Reply}
use Rattle.rule.specs.Refusals.{is_done}
use Rattle.rule.specs.Calls.{subject}
use Rattle.rule.specs.Tally.{counted, Station, step, run}
use Rattle.promise.specs.Promise.{After}
use Rattle.meaning.specs.Meaning.{tables_right}
use Rattle.tally.specs.Counted.{tally_of, counts, tallied}
use Rattle.call_start.specs.Promise.{outcome_of, Lists, lists}
use Rattle.call_start.proofs.Refusals.{after_declined}
use Rattle.histories.specs.Runs.{Memory, Step, answer_to, called, called_all, goes_by, gone_by, Small, station_of, step_of, steps_of}
use Rattle.histories.proofs.Kept.{call_reply, call_refusal, call_stands, call_means}

-- ---- right tables stay right

module _ (s : ℕ) (m : Memory) (c : Step) (small : subject c.call < 2 ^ 32)
    (ok : tables_right s m.relays m.tablets ≡ true) where
  called_right : tables_right (goes_by s m c) (called m c).relays (called m c).tablets ≡ true
  unfolding called goes_by
  called_right =
      let e : (answer_to m c).reply.refusal ≡ _ = call_refusal c.scheme m.relays m.tablets c.moves
      c.call in
      split (is_done (answer_to m c).reply.refusal)
      (λ d. rw (d, goes_by) (call_stands c.scheme m.relays m.tablets c.moves c.call
      (ap is_done (sym e) ∙ d) small).right)
      (λ d.
      let same : (answer_to m c).lent ≡ lists m.relays m.tablets c.moves =
      ap (λ (a : After Reply (Lists ℕ)). a.lent)
      (after_declined c.scheme m.relays m.tablets c.moves c.call (ap is_done (sym e) ∙ d)) in
      rw (d, goes_by) (ap (λ (l : Lists ℕ). tables_right s l.relays l.tablets) same ∙ ok))

pub run_right : (s : ℕ) (m : Memory) (cs : List Step) → Small cs → tables_right s m.relays m.tablets ≡ true
    → tables_right (gone_by s m cs) (called_all m cs).relays (called_all m cs).tablets ≡ true
unfolding called_all gone_by
run_right s m [] f ok = ok
run_right s m (c ∷ cs) f ok = run_right (goes_by s m c) (called m c) cs f.1 (called_right s m c f.0 ok)

-- ---- what the numbers mean

tally_counted : (l : List ℕ) (c : Call) (r : Reply) → length l ≡ 4 → (tally_of (tallied l c r) ≡ counted (tally_of l) c r)
    × (length (tallied l c r) ≡ 4)
unfolding tallied tally_of counts
tally_counted l c r e = rw (eq-eqb (length l) 4 e, tallied) (refl, refl)

module _ (m : Memory) (c : Step) (small : subject c.call < 2 ^ 32) (four : length m.tally ≡ 4) where
  abbrev reply : Reply
  reply = (answer_to m c).reply

  called_tally : tally_of (called m c).tally ≡ counted (tally_of m.tally) c.call
      (outcome_of c.scheme m.relays m.tablets c.moves c.call).reply
  unfolding called
  called_tally =
      (tally_counted m.tally c.call reply four).0
      ∙ ap (λ (r : Reply). counted (tally_of m.tally) c.call r)
      (call_reply c.scheme m.relays m.tablets c.moves c.call)

  called_four : length (called m c).tally ≡ 4
  unfolding called
  called_four = (tally_counted m.tally c.call reply four).1

  called_means : station_of (called m c) ≡ step (station_of m) (step_of m c)
  unfolding station_of step outcome_of called
  called_means =
      λ i. record {
        ring = call_means c.scheme m.relays m.tablets c.moves
            c.call small i;
        tally = called_tally i;
      }

pub run_means : (m : Memory) (cs : List Step) → Small cs → length m.tally ≡ 4 → station_of (called_all m cs)
    ≡ run (station_of m) (steps_of m cs)
unfolding called_all run steps_of
run_means m [] f four = refl
run_means m (c ∷ cs) f four =
    run_means (called m c) cs f.1 (called_four m c f.0 four)
    ∙ ap (λ (t : Station). run t (steps_of (called m c) cs)) (called_means m c f.0 four)
