-- From what a look found to the outcome of a call: which refusal it meets, one law for each, and what then is promised.
--   start_rises, start_ring                                                what right tables give to a loop, and their entries
--   tables_first                                                           the first two refusals, before any others
--   look_refused, number_refused, limits_refused, list_refused, all_passed   the refusal
--   after_declined, after_accepted                                         what is left of the outcome
--   refused_answers, accepted_answers                                      the promise
-- Assumes nothing.
use mathlib.Core.Bool.{true, false, not}
use mathlib.Core.Path.{◌≡◌, refl, sym, ap, ◌∙◌}
use mathlib.Core.List.{List, [], ◌∷◌}
use Prim.Native.Nat.{ℕ, ◌≤◌, ◌<◌}
use borrow.Author.Tests.{lt-ltb, le-ltb}
use lib.Dec.{ltb}
use lib.ListN.{length}
use Rattle.ring.specs.Scheme.{known, positions}
use Rattle.ring.proofs.Tests.{split, true_false}
use Rattle.rule.specs.declared.Refusal.{Refusal}
use Rattle.rule.specs.declared.Refusal.TheVariants.{Done, LimitsTooSmall, MoveListTooShort}
use Rattle.rule.specs.declared.Call.{Call}
use Rattle.rule.specs.declared.Reply.{Reply}
use Rattle.rule.specs.Entry.{total}
use Rattle.rule.specs.Rule.{Ring}
use Rattle.rule.specs.Refusals.{is_done, bare_reply, Bar, bar, first_bar}
use Rattle.rule.specs.Calls.{Lent, edited, moves, wrong_numbers, refusal, accepted, declined}
use Rattle.rule.specs.Calls as Calls
use Rattle.rule.proofs.Accepted.{outcome_accepted, outcome_declined}
use Rattle.promise.specs.Promise.{Answers}
use Rattle.promise.proofs.OneAnswer.{settled_done, settled_refused}
use Rattle.meaning.specs.Meaning.{relays_in, tablets_in, ring_of, tables_right, tables_bars, tables_refusal, lent_of}
use Rattle.meaning.specs.Rising.{Rises}
use Rattle.meaning.proofs.Right.{right_rises}
use Rattle.survey.specs.declared.Survey.{Survey}
use Rattle.write.specs.Tables.{relay_table, tablet_table, listed}
use Rattle.call_start.specs.Promise.{outcome_of, lists, written, left, after}
use Rattle.call_start.specs.Start.{Start}

-- ---- the tables that a look found right

module _ {s : ℕ} {rs ts : List ℕ} {n m : ℕ} {v : Survey} (b : Start s rs ts n m v) where
  pub start_rises : Rises (positions s) rs ts n m
  start_rises = rw (b.relays, b.tablets) (right_rises s rs ts b.relay_words b.tablet_words b.right)

  -- the ring by how many relays and tablets were found
  abbrev pub found : Ring
  found = record { relays = relays_in rs n; tablets = tablets_in ts m }

  pub start_ring : ring_of rs ts ≡ found
  unfolding ring_of
  start_ring = rw (b.relays, b.tablets)

  -- neither of the first two applies
  pub start_past : (later : List Bar) → first_bar (tables_bars s rs ts later) ≡ first_bar later
  unfolding tables_bars first_bar
  start_past later = rw (b.known, b.right)

-- ---- refusals

-- one of the first two comes before whatever follows them
pub tables_first : (s : ℕ) (rs ts : List ℕ) (later : List Bar) (r : Refusal) → tables_refusal s rs ts ≡ r
    → is_done r ≡ false
    → first_bar (tables_bars s rs ts later) ≡ r
unfolding tables_refusal tables_bars first_bar is_done
tables_first s rs ts later r e h =
    split (known s)
    (λ k. split (tables_right s rs ts)
    (λ t. absurd (true_false (done_false (rw (k, t) at e) h)))
    (λ t. rw (k, t) (rw (k, t) at e)))
    (λ k. rw k (rw k at e))
  where
    done_false : Done ≡ r → is_done r ≡ false → true ≡ false
    done_false u h = ap is_done u ∙ h

module _ (s : ℕ) (rs ts ms : List ℕ) (c : Call) where
  abbrev lent : Lent
  lent = lent_of s rs ts ms

  abbrev ring : Ring
  ring = ring_of rs ts

  abbrev why : Refusal
  why = refusal (positions s) lent ring c

  -- what comes behind the first two
  abbrev later : List Bar
  later =
      bar (not (is_done (first_bar (wrong_numbers lent ring c)))) (first_bar (wrong_numbers lent ring c))
      ∷ bar (ltb (total (edited ring c).relays) (length (edited ring c).tablets)) LimitsTooSmall
      ∷ bar (ltb lent.move_places (length (moves (positions s) ring c))) MoveListTooShort ∷ []

  first_two : why ≡ first_bar (tables_bars s rs ts later)
  unfolding refusal lent_of tables_bars tables_right
  first_two = refl

  pub look_refused : (r : Refusal) → tables_refusal s rs ts ≡ r → is_done r ≡ false → why ≡ r
  look_refused r e h = first_two ∙ tables_first s rs ts later r e h

  module _ {n m : ℕ} {v : Survey} (b : Start s rs ts n m v) where
    past_two : why ≡ first_bar later
    past_two = first_two ∙ start_past b later

    pub number_refused : (r : Refusal) → first_bar (wrong_numbers lent ring c) ≡ r → is_done r ≡ false → why ≡ r
    unfolding first_bar
    number_refused r e h = past_two ∙ rw (e, h)

    module _ (numbers_fine : is_done (first_bar (wrong_numbers lent ring c)) ≡ true) where
      pub limits_refused : total (edited ring c).relays < length (edited ring c).tablets → why ≡ LimitsTooSmall
      unfolding first_bar
      limits_refused h = past_two ∙ rw (numbers_fine, lt-ltb _ _ h)

      module _ (enough : length (edited ring c).tablets ≤ total (edited ring c).relays) where
        pub list_refused : lent.move_places < length (moves (positions s) ring c) → why ≡ MoveListTooShort
        unfolding first_bar
        list_refused h = past_two ∙ rw (numbers_fine, le-ltb _ _ enough, lt-ltb _ _ h)

        pub all_passed : length (moves (positions s) ring c) ≤ lent.move_places → why ≡ Done
        unfolding first_bar
        all_passed h = past_two ∙ rw (numbers_fine, le-ltb _ _ enough, le-ltb _ _ h)

  -- ---- the promise

  pub after_declined : is_done why ≡ false → after s rs ts ms c ≡ record { reply = bare_reply why; lent = lists rs ts ms }
  unfolding after left outcome_of declined
  after_declined h =
      rw (outcome_declined (positions s) lent ring c h) (settled_refused why (bare_reply why) (lists rs ts ms) _ h)

  pub after_accepted : is_done why ≡ true → after s rs ts ms c ≡ written listed rs ts ms (accepted (positions s) ring c)
  unfolding after left outcome_of accepted is_done
  after_accepted h = rw (outcome_accepted (positions s) lent ring c h) (settled_done Done _ (lists rs ts ms) _ refl)

  pub refused_answers : (r : Refusal) → why ≡ r → is_done r ≡ false → (reply : Reply) → reply ≡ bare_reply r
      → Answers (after s rs ts ms c) reply (lists rs ts ms)
  refused_answers r e h reply er =
      rw (after_declined (ap is_done e ∙ h)) (record { reply = er ∙ ap bare_reply (sym e); lent = refl })

  pub accepted_answers : why ≡ Done → (reply : Reply) (rs' ts' ms' : List ℕ)
      → reply ≡ (accepted (positions s) ring c).reply
      → rs' ≡ relay_table (length rs) (Calls.after (positions s) ring c)
      → ts' ≡ tablet_table (length ts) (Calls.after (positions s) ring c)
      → ms' ≡ listed (moves (positions s) ring c) ms → Answers (after s rs ts ms c) reply (lists rs' ts' ms')
  unfolding is_done
  accepted_answers e reply rs' ts' ms' er ers ets ems =
      rw (after_accepted (ap is_done e))
      (unfold written accepted in (record { reply = er; lent = λ i. lists (ers i) (ets i) (ems i) }))
