-- From a call's promise on the tables, and its count, to the promise of both (`keeps`), and back (`kept_answers`). Assumes nothing.
use mathlib.Core.List.{List}
use mathlib.Core.Path.{◌≡◌}
use Prim.Native.Nat.{ℕ}
use Rattle.rule.specs.declared.Call.{Call}
use Rattle.rule.specs.declared.Reply.{Reply}
use Rattle.promise.specs.Promise.{with_tally, Answers}
use Rattle.promise.proofs.OneAnswer.{tally_answers}
use Rattle.tally.specs.Counted.{tallied}
use Rattle.call_start.specs.Promise.{Lists, after}
use Rattle.calls.specs.Promise.{counted_after}

module _ (s : ℕ) (rs ts ms tally : List ℕ) (c : Call) {r : Reply} {l : Lists ℕ} {t : List ℕ} where
  pub keeps : Answers (after s rs ts ms c) r l → t ≡ tallied tally c r → Answers (counted_after s rs ts ms tally c) r
      (l, t)
  unfolding counted_after
  keeps a e = tally_answers (tallied tally c) a e

  pub kept_answers : Answers (counted_after s rs ts ms tally c) r (l, t) → Answers (after s rs ts ms c) r l
  unfolding counted_after with_tally
  kept_answers a = record { reply = a.reply; lent = λ i. (a.lent i).0 }
