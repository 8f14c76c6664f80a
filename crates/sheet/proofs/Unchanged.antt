-- Writing the sheet replies with 0 for the relay, the relays passed and the moves, refused or done; and a refused one leaves the lent sheet as it was
-- (document 01, "Replies").
--   reply_zeros, refused_stays
-- Assumes nothing.
use mathlib.Core.Bool.{false}
use mathlib.Core.List.{List}
use mathlib.Core.Path.{◌≡◌, sym, ap, ◌∙◌}
use Prim.Native.Nat.{ℕ}
use Rattle.ring.proofs.Tests.{split}
use Rattle.rule.specs.declared.Refusal.{Refusal}
use Rattle.rule.specs.declared.Reply.{Reply}
use Rattle.rule.specs.Refusals.{is_done, bare_reply}
use Rattle.promise.specs.Promise.{Answers}
use Rattle.promise.proofs.OneAnswer as Promise
use Rattle.promise.proofs.OneAnswer.{settled_done, settled_refused}
use Rattle.sheet.specs.Promise.{sheet_refusal, after}

module _ (s : ℕ) (rs ts lent : List ℕ) {r : Reply} {lent' : List ℕ} (a : Answers (after s rs ts lent) r lent') where
  abbrev why : Refusal
  why = sheet_refusal s rs ts lent

  replied : (after s rs ts lent).reply ≡ bare_reply why
  unfolding after
  replied =
      split (is_done why)
      (λ d. rw (settled_done why (bare_reply why) lent _ d))
      (λ d. rw (settled_refused why (bare_reply why) lent _ d))

  pub reply_zeros : r ≡ bare_reply r.refusal
  reply_zeros = a.reply ∙ replied ∙ ap (λ (x : Reply). bare_reply x.refusal) (sym (a.reply ∙ replied))

  pub refused_stays : is_done r.refusal ≡ false → lent' ≡ lent
  unfolding after
  refused_stays f = (Promise.refused_stays why (bare_reply why) lent _ (λ x. x.refusal) (λ d. d) a f).1
