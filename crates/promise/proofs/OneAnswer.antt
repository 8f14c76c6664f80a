-- A promise binds: two replies that it allows are equal, with all that is lent afterwards, and what refuses leaves all that is lent.
--   answers_one                        one answer
--   settled_done, settled_refused      what is settled, done and refused
--   done_answers, refused_answers      from what was done, or from a refusal, to the promise
--   refused_stays                      a refusal leaves what is lent
--   tally_answers                      with a tally
-- Assumes nothing.
use mathlib.Core.Bool.{true, false}
use mathlib.Core.Path.{◌≡◌, refl, sym, ap, ◌∙◌}
use Rattle.ring.proofs.Tests.{split, true_false}
use Rattle.rule.specs.declared.Refusal.{Refusal}
use Rattle.rule.specs.Refusals.{is_done}
use Rattle.promise.specs.Promise.{After, settled, with_tally, Answers}

module _ {R L : Type 0} where
  pub answers_one : {a : After R L} {r r' : R} {l l' : L} → Answers a r l → Answers a r' l' → (r ≡ r') × (l ≡ l')
  answers_one x y = (x.reply ∙ sym y.reply, x.lent ∙ sym y.lent)

  module _ (why : Refusal) (reply : R) (lent : L) (done : After R L) where
    pub settled_done : is_done why ≡ true → settled why reply lent done ≡ done
    unfolding settled
    settled_done d = rw (d, settled)

    pub settled_refused : is_done why ≡ false → settled why reply lent done ≡ record { reply = reply; lent = lent }
    unfolding settled
    settled_refused d = rw (d, settled)

    pub done_answers : is_done why ≡ true → {r : R} {l : L} → Answers done r l
        → Answers (settled why reply lent done) r l
    done_answers d a = rw (settled_done d) a

    pub refused_answers : is_done why ≡ false → {r : R} → r ≡ reply → Answers (settled why reply lent done) r lent
    refused_answers d e = rw (settled_refused d) (record { reply = e; lent = refl })

    -- where a done reply says that it is done
    pub refused_stays : (refusal_of : R → Refusal) → (is_done why ≡ true → is_done (refusal_of done.reply) ≡ true)
        → {r : R} {l : L}
        → Answers (settled why reply lent done) r l → is_done (refusal_of r) ≡ false → (r ≡ reply) × (l ≡ lent)
    refused_stays refusal_of says {r} a f =
        split (is_done why)
        (λ d. absurd (true_false (sym (says d) ∙ ap (λ (x : After R L). is_done (refusal_of x.reply))
        (sym (settled_done d))
        ∙ ap (λ (x : R). is_done (refusal_of x)) (sym a.reply) ∙ f)))
        (λ d. answers_one a (refused_answers d refl))

  pub tally_answers : {T : Type 0} (counted : R → T) {a : After R L} {r : R} {l : L} {t : T} → Answers a r l
      → t ≡ counted r
      → Answers (with_tally counted a) r (l, t)
  unfolding with_tally
  tally_answers counted x e = record { reply = x.reply; lent = λ i. (x.lent i, (e ∙ ap counted x.reply) i) }
