-- From what a call did on the tables, and what was handed out and counted, to the promise (`attends`). Assumes nothing.
use mathlib.Core.List.{List, []}
use mathlib.Core.Path.{◌≡◌, refl, sym, ◌∙◌}
use Prim.Native.Nat.{ℕ}
use lib.ListN.{length}
use Rattle.ring.specs.Scheme.{positions}
use Rattle.rule.specs.declared.Call.{Call}
use Rattle.rule.specs.declared.Move.{Move}
use Rattle.rule.specs.declared.Reply.{Reply}
use Rattle.rule.specs.declared.Tally.{Tally}
use Rattle.rule.specs.Calls.{Outcome}
use Rattle.rule.specs.Tally.{counted}
use Rattle.promise.specs.Promise.{Answers}
use Rattle.promise.proofs.OneAnswer.{tally_answers}
use Rattle.meaning.specs.Meaning.{ring_of}
use Rattle.call_start.specs.Promise.{lists, left}
use Rattle.records.specs.Outcome.{lent_with, outcome_with, recorded, tables_after}
use Rattle.records.specs.Works.{Works}
use Rattle.records.proofs.Outcomes.{left_reply, left_relays, left_tablets, left_moves}
use Rattle.station.specs.Promise.{attended}
use Rattle.station.specs.Handed.{handed}
use Rattle.station.proofs.Records.{handed_moves}

module _ (s : ℕ) (rs ts : List ℕ) (list : List Move) (t : Tally) (c : Call) where
  abbrev o : Outcome
  o = outcome_with s rs ts (length list) c

  recorded_moves : (left recorded rs ts list o).lent.moves ≡ recorded o.moves list
  unfolding outcome_with recorded
  recorded_moves = left_moves (positions s) (lent_with s rs ts (length list)) (ring_of rs ts) c recorded rs ts list refl

  pub attends : {r : Reply} {numbers rs' ts' : List ℕ} {list' : List Move} {t' : Tally}
      → Works s rs ts (length list) c r numbers rs' ts'
      → list' ≡ handed list numbers r.moves → t' ≡ counted t c r → Answers (attended s rs ts list t c) r
      (lists rs' ts' list', t')
  unfolding tables_after attended
  attends {r = r} {numbers} {rs'} {ts'} {list'} d e u =
      let relays : rs' ≡ (left recorded rs ts list o).lent.relays = d.relays
      ∙ left_relays recorded rs ts [] o recorded list in
      let tablets : ts' ≡ (left recorded rs ts list o).lent.tablets = d.tablets
      ∙ left_tablets recorded rs ts [] o recorded list in
      let moves : list' ≡ (left recorded rs ts list o).lent.moves =
      e ∙ handed_moves o.moves list numbers r.moves d.count d.fits d.moves ∙ sym recorded_moves in
      tally_answers (counted t c)
      (record {
        reply = d.reply ∙ sym (left_reply recorded rs ts list o);
        lent = λ i. lists (relays i) (tablets i)
            (moves i);
      })
      u
