-- A refused call changes nothing (document 01, "Replies"): of all that the promise allows, the reply has 0 for the relay, the relays passed and the
-- moves, and every lent number is as it was.
--   refused_stays
-- Assumes nothing.
use mathlib.Core.Bool.{false}
use mathlib.Core.List.{List}
use mathlib.Core.Path.{◌≡◌, sym, ap, ◌∙◌}
use Prim.Native.Nat.{ℕ}
use Rattle.ring.specs.Scheme.{positions}
use Rattle.ring.proofs.Tests.{split, true_false}
use Rattle.rule.specs.declared.Call.{Call}
use Rattle.rule.specs.declared.Reply.{Reply}
use Rattle.rule.specs.Refusals.{is_done, bare_reply}
use Rattle.rule.specs.Calls.{Lent, Outcome, refusal, accepted, declined}
use Rattle.rule.proofs.Accepted.{outcome_accepted, outcome_declined}
use Rattle.promise.specs.Promise.{Answers}
use Rattle.promise.proofs.OneAnswer as Promise
use Rattle.meaning.specs.Meaning.{ring_of, lent_of}
use Rattle.write.specs.Tables.{listed}
use Rattle.call_start.specs.Promise.{outcome_of, Lists, lists, written, left, after}

module _ (s : ℕ) (rs ts ms : List ℕ) (c : Call) where
  abbrev o : Outcome
  o = outcome_of s rs ts ms c

  abbrev lent : Lent
  lent = lent_of s rs ts ms

  zeros : is_done o.reply.refusal ≡ false → o.reply ≡ bare_reply o.reply.refusal
  unfolding outcome_of accepted declined is_done
  zeros f =
      split (is_done (refusal (positions s) lent (ring_of rs ts) c))
      (λ d. absurd (true_false (ap (λ (x : Outcome). is_done x.reply.refusal)
      (sym (outcome_accepted (positions s) lent (ring_of rs ts) c d)) ∙ f)))
      (λ d. rw (outcome_declined (positions s) lent (ring_of rs ts) c d))

  pub refused_stays : {r : Reply} {l : Lists ℕ} → Answers (after s rs ts ms c) r l → is_done r.refusal ≡ false
      → (r ≡ bare_reply r.refusal) × (l ≡ lists rs ts ms)
  unfolding after left written
  refused_stays {r} {l} a f =
      let e : (r ≡ o.reply) × (l ≡ lists rs ts ms) =
      Promise.refused_stays o.reply.refusal o.reply (lists rs ts ms) (written listed rs ts ms o)
      (λ x. x.refusal) (λ d. d) a f in
      let z : o.reply ≡ bare_reply o.reply.refusal = zeros
      (ap (λ (x : Reply). is_done x.refusal) (sym e.0) ∙ f) in
      (e.0 ∙ z ∙ ap (λ (x : Reply). bare_reply x.refusal) (sym e.0), e.1)
