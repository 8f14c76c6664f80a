-- A chain of refusals, one after the other; and the chains of the relay calls.
--   numbers_first, numbers_past              the first two, which adding and setting begin with
--   add_numbers, remove_numbers, set_numbers the refusals that document 01 gives a call's numbers are those found
-- Assumes nothing.
use mathlib.Core.Bool.{false}
use mathlib.Core.List.{List, ◌∷◌}
use mathlib.Core.Path.{◌≡◌, sym, ap, ◌∙◌}
use Prim.Native.Nat.{ℕ}
use lib.Dec.{eqb, ltb, leb}
use lib.ListN.{length}
use Rattle.ring.specs.Most.{most_limit}
use Rattle.ring.proofs.Tests.{split, true_false}
use Rattle.ring.specs.declared.RelayNumber.{RelayNumber}
use Rattle.rule.specs.declared.Refusal.{Refusal}
use Rattle.rule.specs.declared.Refusal.TheVariants.{Done, NumberZero, TooLarge}
use Rattle.rule.specs.declared.Call.TheVariants.{Add, Remove, Set}
use Rattle.rule.specs.Entry.{has}
use Rattle.rule.specs.Refusals.{is_done, Bar, bar, first_bar}
use Rattle.rule.specs.Calls.{wrong_numbers}
use Rattle.tables.specs.Table.{relay_places, relay_number, relay_limit}
use Rattle.survey.specs.declared.Survey.{Survey}
use Rattle.meaning.specs.Meaning.{relays_in, ring_of, lent_of}
use Rattle.meaning.proofs.Places.{length_places}
use Rattle.lookup.specs.Spot.{missing}
use Rattle.call_start.specs.Start.{Start}
use Rattle.call_start.proofs.Refusals.{start_ring}
use Rattle.relay_edit.specs.Refused.{numbers_refusal, add_refusal, set_refusal}

module _ (x limit : ℕ) where
  -- one of the first two applies, whatever follows them
  pub numbers_first : {why : Refusal} (later : List Bar) → (numbers_refusal x limit ≡ why) × (is_done why ≡ false)
      → (first_bar (bar (eqb x 0) NumberZero ∷ bar (ltb most_limit limit) TooLarge ∷ later) ≡ why) × (is_done why ≡ false)
  unfolding numbers_refusal first_bar is_done
  numbers_first {why} later w =
      split (eqb x 0)
      (λ y. (rw y (rw y at w.0), w.1))
      (λ y. split (ltb most_limit limit)
      (λ z. (rw (y, z) (rw (y, z) at w.0), w.1))
      (λ z. absurd (true_false (ap is_done (rw (y, z) at w.0) ∙ w.1))))

  -- neither does
  pub numbers_past : {why : Refusal} (later : List Bar) → numbers_refusal x limit ≡ Done → first_bar later ≡ why
      → first_bar (bar (eqb x 0) NumberZero ∷ bar (ltb most_limit limit) TooLarge ∷ later) ≡ why
  unfolding numbers_refusal first_bar is_done
  numbers_past later e h =
      split (eqb x 0)
      (λ y. absurd (true_false (sym (ap is_done (rw y at e)))))
      (λ y. split (ltb most_limit limit)
      (λ z. absurd (true_false (sym (ap is_done (rw (y, z) at e)))))
      (λ z. rw (y, z) h))

-- ---- the chains, once the tables are found right

module _ {s : ℕ} {rs ts : List ℕ} {n m : ℕ} {v : Survey} (b : Start s rs ts n m v) (ms : List ℕ) (r : RelayNumber) where
  -- how many relays there are
  used : length (relays_in rs n) ≡ n
  used = length_places (relay_number rs) (relay_limit rs) n

  pub add_numbers : (limit : ℕ) → first_bar (wrong_numbers (lent_of s rs ts ms) (ring_of rs ts) (Add r limit))
      ≡ add_refusal r.0 limit (has (relays_in rs n) r.0) (leb (relay_places rs) n)
  unfolding wrong_numbers lent_of add_refusal
  add_numbers limit = rw (start_ring b, used)

  pub remove_numbers : first_bar (wrong_numbers (lent_of s rs ts ms) (ring_of rs ts) (Remove r))
      ≡ missing r.0 (has (relays_in rs n) r.0)
  unfolding wrong_numbers lent_of missing
  remove_numbers = rw (start_ring b)

  pub set_numbers : (limit : ℕ) → first_bar (wrong_numbers (lent_of s rs ts ms) (ring_of rs ts) (Set r limit))
      ≡ set_refusal r.0 limit
      (has (relays_in rs n) r.0)
  unfolding wrong_numbers lent_of set_refusal
  set_numbers limit = rw (start_ring b)
