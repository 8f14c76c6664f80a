-- Reading replies with 0 for the relay, the relays passed and the moves, refused or done; and a refused reading leaves the lent tables as they were,
-- with 0 as the scheme (document 01, "Replies", "Roster file").
--   reply_zeros, refused_stays
--   results_one    two results that say the same, where neither refuses with done, are equal
--   reads_one      two readings of one roster that the promise allows are equal, with the lent tables
-- Assumes nothing.
use mathlib.Core.Bool.{false}
use mathlib.Core.List.{List}
use mathlib.Core.Path.{◌≡◌, refl, sym, ap, ◌∙◌}
use Prim.Native.Nat.{ℕ}
use Rattle.std.specs.Prelude.{Result, Ok, Err, IfErr}
use Rattle.ring.proofs.Tests.{split, true_false}
use Rattle.rule.specs.declared.Refusal.TheVariants.{Done}
use Rattle.rule.specs.declared.Reply.{Reply}
use Rattle.rule.specs.declared.Refusal.{Refusal}
use Rattle.rule.specs.Refusals.{is_done, bare_reply}
use Rattle.promise.specs.Promise.{Answers}
use Rattle.promise.proofs.OneAnswer as Promise
use Rattle.promise.proofs.OneAnswer.{settled_done, settled_refused}
use Rattle.roster.specs.Reading.{Reading, refusal, taken, refused_reading, reading_of, after}

module _ (b rs ts : List ℕ) {r : Reading} {l : List ℕ × List ℕ} (a : Answers (after b rs ts) r l) where
  abbrev why : Refusal
  why = refusal b rs ts

  zeros : (after b rs ts).reply.reply ≡ bare_reply (after b rs ts).reply.reply.refusal
  unfolding after taken
  zeros =
      split (is_done why)
      (λ d. rw (settled_done why (refused_reading why) (rs, ts) (taken b rs ts) d))
      (λ d. rw (settled_refused why (refused_reading why) (rs, ts) (taken b rs ts) d))

  pub reply_zeros : r.reply ≡ bare_reply r.reply.refusal
  reply_zeros =
      ap (λ (x : Reading). x.reply) a.reply ∙ zeros ∙ ap (λ (x : Reading). bare_reply x.reply.refusal)
      (sym a.reply)

  pub refused_stays : is_done r.reply.refusal ≡ false → (r.scheme ≡ 0) × (l ≡ (rs, ts))
  unfolding after taken is_done
  refused_stays f =
      let e : (r ≡ refused_reading why) × (l ≡ (rs, ts)) =
      Promise.refused_stays why (refused_reading why) (rs, ts) (taken b rs ts) (λ x. x.reply.refusal)
      (λ _. refl) a f in
      (ap (λ (x : Reading). x.scheme) e.0, e.1)

not_refused : {why : Refusal} → bare_reply Done ≡ bare_reply why → is_done why ≡ false → ⊥
unfolding is_done
not_refused e f = true_false (ap (λ (r : Reply). is_done r.refusal) e ∙ f)

pub results_one : (x y : Result ℕ Refusal) → reading_of x ≡ reading_of y → IfErr x (λ why. is_done why ≡ false)
    → IfErr y (λ why. is_done why ≡ false) → x ≡ y
results_one (Ok x) (Ok y) e f g = ap (λ (r : Reading). Ok r.scheme) e
results_one (Ok x) (Err y) e f g = absurd (not_refused (ap (λ (r : Reading). r.reply) e) g)
results_one (Err x) (Ok y) e f g = absurd (not_refused (ap (λ (r : Reading). r.reply) (sym e)) f)
results_one (Err x) (Err y) e f g = ap (λ (r : Reading). Err r.reply.refusal) e

pub reads_one : (b rs ts : List ℕ) (x y : Result ℕ Refusal) {l l' : List ℕ × List ℕ} → Answers (after b rs ts) (reading_of x) l
    → Answers (after b rs ts) (reading_of y) l' → IfErr x (λ why. is_done why ≡ false) → IfErr y (λ why. is_done why ≡ false)
    → (x ≡ y) × (l ≡ l')
reads_one b rs ts x y p q f g =
    let e : (reading_of x ≡ reading_of y) × _ = Promise.answers_one p q in
    (results_one x y e.0 f g, e.1)
