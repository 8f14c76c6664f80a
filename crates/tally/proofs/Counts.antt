-- What the tally by value, and as four lent numbers, says of the calls that it leaves out.
--   counted_refused    a refused call is a refusal alone
--   tallied_other      a tally of another length than four is left as it is
-- Assumes nothing.
use mathlib.Core.Bool.{Bool, false}
use mathlib.Core.List.{List}
use mathlib.Core.Path.{◌≡◌, refl, sym}
use Prim.Native.Nat.{ℕ}
use borrow.Author.Tests.{ne_eqb}
use lib.ListN.{length}
use Rattle.rule.specs.declared.Call.{Call}
use Rattle.rule.specs.declared.Reply.{Reply}
use Rattle.rule.specs.declared.Tally.{Tally}
use Rattle.rule.specs.Refusals.{is_done}
use Rattle.rule.specs.Tally.{more, counted}
use Rattle.tally.specs.Counted.{tallied}

module _ (t : Tally) (c : Call) (r : Reply) {b : Bool} (e : b ≡ is_done r.refusal) where
  pub counted_refused : {re : ℕ} → b ≡ false → re ≡ more t.refusals 1
      → record { enrolments = t.enrolments; withdrawals = t.withdrawals; moves = t.moves; refusals = re }
      ≡ counted t c r
  unfolding counted
  counted_refused q f = rw (← e, q, counted, f)

module _ (l : List ℕ) (c : Call) (r : Reply) where
  pub tallied_other : (length l ≡ 4 → ⊥) → l ≡ tallied l c r
  unfolding tallied
  tallied_other d = sym (rw (ne_eqb (length l) 4 d, tallied) refl)
