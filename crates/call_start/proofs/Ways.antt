-- A look is refused, and so is the call.
--   look_answers
-- Assumes nothing.
use mathlib.Core.Bool.{false}
use mathlib.Core.Path.{◌≡◌}
use mathlib.Core.List.{List}
use Prim.Native.Nat.{ℕ}
use Rattle.rule.specs.declared.Refusal.{Refusal}
use Rattle.rule.specs.declared.Call.{Call}
use Rattle.rule.specs.declared.Reply.{Reply}
use Rattle.rule.specs.Refusals.{is_done, bare_reply}
use Rattle.promise.specs.Promise.{Answers}
use Rattle.meaning.specs.Meaning.{tables_refusal}
use Rattle.call_start.specs.Promise.{lists, after}
use Rattle.call_start.proofs.Refusals.{look_refused, refused_answers}

pub look_answers : (s : ℕ) (rs ts : List ℕ) {why : Refusal} → (tables_refusal s rs ts ≡ why) × (is_done why ≡ false)
    → (c : Call) (ms : List ℕ) {reply : Reply} → reply ≡ bare_reply why → Answers (after s rs ts ms c) reply (lists rs ts ms)
look_answers s rs ts {why} w c ms {reply} e =
    refused_answers s rs ts ms c why (look_refused s rs ts ms c why w.0 w.1) w.1 reply e
