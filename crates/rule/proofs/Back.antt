-- Withdrawing reverses an enrolment (document 01, "The rule of placement"), and removing the addition of a relay: the tables are again what they
-- were, with every tablet where it sat.
--   enrol_withdraw, add_remove
-- Assumes nothing.
use mathlib.Core.Bool.{true, false}
use mathlib.Core.Path.{◌≡◌, refl, sym, ap, ◌∙◌}
use mathlib.Core.List.{List, [], ◌∷◌}
use Prim.Native.Nat.{ℕ, ◌^◌, ◌<◌}
use native.Mathlib.Omega.{arith}
use lib.Dec.{eqb}
use Rattle.ring.specs.Scheme.{Positions}
use Rattle.ring.specs.declared.RelayNumber.{RelayNumber}
use Rattle.ring.specs.declared.TabletNumber.{TabletNumber}
use Rattle.ring.specs.Clockwise.{key}
use Rattle.ring.proofs.Tests.{split, true_false}
use Rattle.rule.specs.declared.Call.{Call}
use Rattle.rule.specs.declared.Call.TheVariants.{Add, Remove, Enrol, Withdraw}
use Rattle.rule.specs.Entry.{Entry, numbers, has, insert, delete}
use Rattle.rule.specs.Rule.{Ring}
use Rattle.rule.specs.Refusals.{is_done}
use Rattle.rule.specs.Calls.{Lent, subject, edited, after, refusal}
use Rattle.rule.specs.Rooms.{fill}
use Rattle.rule.proofs.Puts.{delete_inserted}
use Rattle.rule.proofs.Demand3.{in_has}
use Rattle.rule.proofs.Accepted.{accepted_is, after_fill}
use Rattle.rule.proofs.Own.{edit_is, tablets_are, told_is, right_before}

-- the numbers that are left do not depend on what stands beside them
delete_numbers : (n : ℕ) (es fs : List Entry) → numbers es ≡ numbers fs → numbers (delete n es) ≡ numbers (delete n fs)
unfolding numbers delete
delete_numbers n [] [] h = refl
delete_numbers n [] (f ∷ fs) h = absurd (let z : ◌≡◌ {A = ℕ} 0 1 = cc in omega arith)
delete_numbers n (e ∷ es) [] h = absurd (let z : ◌≡◌ {A = ℕ} 0 1 = cc in omega arith)
delete_numbers n (e ∷ es) (f ∷ fs) h =
    let a : e.number ≡ f.number = cc in
    let b : numbers es ≡ numbers fs = cc in
    split (eqb e.number n)
    (λ s. rw (s, delete, rw a at s, delete) b)
    (λ s. rw (s, delete, rw a at s, delete) (λ i. a i ∷ delete_numbers n es fs b i))

-- tablets that have these numbers again, on these relays, sit where they sat
module _ (p : Positions) (m m' : Lent) (g : Ring) (c d : Call) (done : is_done (refusal p m g c) ≡ true)
    (small : subject d < 2 ^ 32)
    (undone : is_done (refusal p m' (after p g c) d) ≡ true) where
  seated_again : (edited (after p g c) d).relays ≡ g.relays → numbers (edited (after p g c) d).tablets
      ≡ numbers g.tablets → after p (after p g c) d ≡ g
  unfolding after
  seated_again rs ts =
      let e : (after p (after p g c) d).tablets ≡ g.tablets =
      after_fill p (after p g c) d (edit_is p m' (after p g c) d undone small)
      (accepted_is p m' (after p g c) d undone).enough
      ∙ ap (λ (l : List Entry). fill (key p) l (numbers (edited (after p g c) d).tablets)) rs
      ∙ ap (fill (key p) g.relays) ts
      ∙ sym (right_before p m g c done).ruled in
      λ i. record { relays = rs i; tablets = e i }

-- who was put in and is taken out again is gone
gone : (n v : ℕ) (es : List Entry) → has es n ≡ false → delete n (insert n v es) ≡ es
gone n v es out = delete_inserted n v es (λ i. true_false (sym (in_has es n i) ∙ out))

module _ (p : Positions) (m m' : Lent) (g : Ring) where
  pub enrol_withdraw : (t : TabletNumber) → t.0 < 2 ^ 32 → is_done (refusal p m g (Enrol t)) ≡ true
      → is_done (refusal p m' (after p g (Enrol t)) (Withdraw t)) ≡ true → after p (after p g (Enrol t)) (Withdraw t) ≡ g
  unfolding subject edited
  enrol_withdraw t small done undone =
      seated_again p m m' g (Enrol t) (Withdraw t) done small undone (unfold after in refl)
      (delete_numbers t.0 (after p g (Enrol t)).tablets (insert t.0 0 g.tablets)
      (tablets_are p m g (Enrol t) done small)
      ∙ ap numbers (gone t.0 0 g.tablets (told_is p m g (Enrol t) done)))

  pub add_remove : (r : RelayNumber) (l : ℕ) → r.0 < 2 ^ 32 → is_done (refusal p m g (Add r l)) ≡ true
      → is_done (refusal p m' (after p g (Add r l)) (Remove r)) ≡ true → after p (after p g (Add r l)) (Remove r) ≡ g
  unfolding subject edited after
  add_remove r l small done undone =
      seated_again p m m' g (Add r l) (Remove r) done small undone
      (gone r.0 l g.relays (told_is p m g (Add r l) done)) (tablets_are p m g (Add r l) done small)
