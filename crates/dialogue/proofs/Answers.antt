-- From what a call did, and from what was put, to the promise of a line.
--   shows_said    one to a line that leaves all that is lent
--   shows_call    one to a call
-- Assumes nothing.
use mathlib.Core.List.{List}
use mathlib.Core.Path.{refl, ap₂}
use Prim.Native.Nat.{ℕ}
use Rattle.rule.specs.declared.Call.{Call}
use Rattle.rule.specs.declared.Reply.{Reply}
use Rattle.promise.specs.Promise.{Answers}
use Rattle.call_start.specs.Promise.{Lists, lists, after}
use Rattle.calls.specs.Promise.{counted_after}
use Rattle.calls.proofs.Kept.{kept_answers}
use Rattle.text.specs.Puts.{Puts}
use Rattle.answer.specs.Text.{answer_text}
use Rattle.text.proofs.Puts.{puts_text}
use Rattle.stage.specs.declared.Stage.TheVariants.{Under}
use Rattle.stage.specs.declared.Standing.{Standing}
use Rattle.stage.specs.Stage.{Said, Says}
use Rattle.stage.proofs.Says.{says_text}
use Rattle.dialogue.specs.Lines.{unchanged, called, Shows}

pub shows_said : {s : Said} {rs ts ms out out' : List ℕ} {r : Standing} → Says s out r out'
    → Shows (unchanged rs ts ms s) out r (lists rs ts ms) out'
unfolding unchanged
shows_said p = record { answer = p; lent = refl }

module _ (s : ℕ) (rs ts ms tally : List ℕ) (c : Call) {r : Reply} {l : Lists ℕ} {tally' out out' : List ℕ} {n : ℕ} where
  pub shows_call : Answers (counted_after s rs ts ms tally c) r (l, tally') → Puts out 0 (answer_text r l.moves) out' n
      → Shows (called s (after s rs ts ms c)) out (record { stage = Under s; kept = 0; due = n }) l out'
  unfolding called
  shows_call k p =
      let a : Answers (after s rs ts ms c) r l = kept_answers s rs ts ms tally c k in
      record {
        answer = says_text (puts_text (ap₂ (λ (x : Reply) (y : Lists ℕ). answer_text x y.moves) a.reply
            a.lent) p);
        lent = a.lent;
      }
