-- An accepted call changes the sets by its own entry and nothing else (document 01, "The rule of placement").
--   own_entry                       what the sets are afterwards, for each call
--   remove_frees, withdraw_frees    one entry less, so a place is free ("Replies")
-- Assumes nothing.
use mathlib.Core.Bool.{true, false}
use mathlib.Core.Path.{◌≡◌, refl, sym, ◌∙◌}
use Prim.Native.Nat.{ℕ, suc, ◌^◌, ◌<◌}
use native.Mathlib.Omega.{arith}
use lib.ListN.{length}
use borrow.Author.Tests.{not-false}
use Rattle.ring.specs.Scheme.{Positions}
use Rattle.ring.specs.declared.RelayNumber.{RelayNumber}
use Rattle.ring.specs.declared.TabletNumber.{TabletNumber}
use Rattle.rule.specs.declared.Refusal.TheVariants.{NumberZero, TooLarge, NotThere, ThereAlready}
use Rattle.rule.specs.declared.Call.{Call}
use Rattle.rule.specs.declared.Call.TheVariants.{Add, Remove, Set, Enrol, Withdraw, Find}
use Rattle.rule.specs.Entry.{numbers, has, beside_of}
use Rattle.rule.specs.Rule.{Ring}
use Rattle.rule.specs.Refusals.{is_done, first_bar}
use Rattle.rule.specs.Stability.{Rising}
use Rattle.rule.specs.Calls.{Lent, subject, edited, after, wrong_numbers, refusal}
use Rattle.rule.specs.Facts.{Right}
use Rattle.rule.specs.Sets.{Changed}
use Rattle.rule.specs.Applies.{Accepted}
use Rattle.rule.proofs.Counts.{length_delete}
use Rattle.rule.proofs.Right.{right_is}
use Rattle.rule.proofs.Demand3.{has_sits}
use Rattle.rule.proofs.Accepted.{bar_passed, accepted_is, Edited, edited_tables, after_sets, after_length}
use Rattle.rule.proofs.Outcomes.{find_after}
use Rattle.rule.proofs.Others.{insert_others, delete_others, put_others, insert_own, delete_own, put_own, same_there}

-- ---- what a call is accepted for

-- whether its own number is there
abbrev pub Told : Ring → Call → Type 0
Told g (Add r l) = has g.relays r.0 ≡ false
Told g (Remove r) = has g.relays r.0 ≡ true
Told g (Set r l) = has g.relays r.0 ≡ true
Told g (Enrol t) = has g.tablets t.0 ≡ false
Told g (Withdraw t) = has g.tablets t.0 ≡ true
Told g (Find t) = has g.tablets t.0 ≡ true

told : (m : Lent) (g : Ring) (c : Call) → is_done (first_bar (wrong_numbers m g c)) ≡ true → Told g c
unfolding wrong_numbers is_done
told m g (Add r l) h =
    (bar_passed _ ThereAlready _ refl (bar_passed _ TooLarge _ refl (bar_passed _ NumberZero _ refl h).1).1).0
told m g (Remove r) h = not-false _ (bar_passed _ NotThere _ refl (bar_passed _ NumberZero _ refl h).1).0
told m g (Set r l) h =
    not-false _ (bar_passed _ NotThere _ refl
    (bar_passed _ TooLarge _ refl (bar_passed _ NumberZero _ refl h).1).1).0
told m g (Enrol t) h = (bar_passed _ ThereAlready _ refl (bar_passed _ NumberZero _ refl h).1).0
told m g (Withdraw t) h = not-false _ (bar_passed _ NotThere _ refl (bar_passed _ NumberZero _ refl h).1).0
told m g (Find t) h = not-false _ (bar_passed _ NotThere _ refl (bar_passed _ NumberZero _ refl h).1).0

-- ---- the sets afterwards

module _ (p : Positions) (m : Lent) (g : Ring) where
  -- an accepted call's sets are the edited ones
  pub edit_is : (c : Call) → is_done (refusal p m g c) ≡ true → subject c < 2 ^ 32 → Edited g c
  edit_is c d s =
      let a : Accepted p m g c = accepted_is p m g c d in edited_tables p m g c (right_is p g a.tables)
      a.numbers s

  pub tablets_are : (c : Call) → is_done (refusal p m g c) ≡ true → subject c < 2 ^ 32 → numbers (after p g c).tablets
      ≡ numbers (edited g c).tablets
  tablets_are c d s = after_sets p g c (edit_is c d s) (accepted_is p m g c d).enough

  tablet_there : (c : Call) → is_done (refusal p m g c) ≡ true → subject c < 2 ^ 32 → (n : ℕ)
      → has (after p g c).tablets n ≡ has (edited g c).tablets n
  tablet_there c d s n = same_there (after p g c).tablets (edited g c).tablets (tablets_are c d s) n

  pub told_is : (c : Call) → is_done (refusal p m g c) ≡ true → Told g c
  told_is c d = told m g c (accepted_is p m g c d).numbers

  pub right_before : (c : Call) → is_done (refusal p m g c) ≡ true → Right p g
  right_before c d = right_is p g (accepted_is p m g c d).tables

  pub own_entry : (c : Call) → is_done (refusal p m g c) ≡ true → subject c < 2 ^ 32 → Changed g c (after p g c)
  unfolding after edited
  own_entry (Add r l) d s = (
    insert_others r.0 l g.relays,
    (
      insert_own r.0 l g.relays (told_is (Add r l) d),
      tablets_are
          (Add r l) d s,
    ),
  )
  own_entry (Remove r) d s = (
    delete_others r.0 g.relays,
    (
      delete_own r.0 g.relays (right_before (Remove r) d).relays.up,
      tablets_are (Remove r) d s,
    ),
  )
  own_entry (Set r l) d s =
      (put_others r.0 l g.relays, (put_own r.0 l g.relays (told_is (Set r l) d), tablets_are (Set r l) d s))
  own_entry (Enrol t) d s = (
    refl,
    (
      λ q n. tablet_there (Enrol t) d s q ∙ (insert_others t.0 0 g.tablets).there q n,
      tablet_there (Enrol t) d s t.0 ∙ (insert_own t.0 0 g.tablets (told_is (Enrol t) d)).there,
    ),
  )
  own_entry (Withdraw t) d s = (
    refl,
    (
      λ q n. tablet_there (Withdraw t) d s q ∙ (delete_others t.0 g.tablets).there q n,
      tablet_there (Withdraw t) d s t.0 ∙ delete_own t.0 g.tablets (right_before (Withdraw t) d).tablets.up,
    ),
  )
  own_entry (Find t) d s = λ i. record { relays = g.relays; tablets = find_after p g (right_before (Find t) d) t i }

  -- ---- freed places

  pub withdraw_frees : (t : TabletNumber) → t.0 < 2 ^ 32 → is_done (refusal p m g (Withdraw t)) ≡ true
      → suc (length (after p g (Withdraw t)).tablets) ≡ length g.tablets
  unfolding edited subject
  withdraw_frees t small d =
      let up : Rising 0 (numbers g.tablets) = (right_before (Withdraw t) d).tablets.up in
      omega (
        arith,
        after_length p g (Withdraw t) (edit_is (Withdraw t) d small)
            (accepted_is p m g (Withdraw t) d).enough,
        length_delete t.0 (beside_of g.tablets t.0) g.tablets 0 up
            (has_sits g.tablets 0 t.0 up (told_is (Withdraw t) d)),
      )

  pub remove_frees : (r : RelayNumber) → is_done (refusal p m g (Remove r)) ≡ true
      → suc (length (after p g (Remove r)).relays) ≡ length g.relays
  unfolding after edited
  remove_frees r d =
      let up : Rising 0 (numbers g.relays) = (right_before (Remove r) d).relays.up in
      sym (length_delete r.0 (beside_of g.relays r.0) g.relays 0 up
      (has_sits g.relays 0 r.0 up (told_is (Remove r) d)))
