-- A relay of limit 0 is taken out without a move (document 01, "A drill to prove"; document 000, "Removing a bin"): it stands in every order, and
-- nobody sits there.
--   drained_remove
-- Assumes nothing.
use mathlib.Core.Bool.{true}
use mathlib.Core.Path.{◌≡◌, sym, ◌∙◌}
use mathlib.Core.List.{List, []}
use Prim.Native.Nat.{ℕ, ◌^◌, ◌<◌}
use native.Mathlib.Omega.{arith}
use borrow.Author.Tests.{eqb-true, eqb-false, ltb-true, ltb-false}
use lib.Dec.{eqb, ltb}
use Rattle.ring.specs.Scheme.{Positions}
use Rattle.ring.specs.Clockwise.{key}
use Rattle.ring.specs.declared.RelayNumber.{RelayNumber}
use Rattle.ring.proofs.Tests.{split, true_false}
use Rattle.rule.specs.declared.Call.TheVariants.{Remove}
use Rattle.rule.specs.Entry.{Entry, numbers, beside_of, delete}
use Rattle.rule.specs.Rule.{Ring}
use Rattle.rule.specs.Refusals.{is_done}
use Rattle.rule.specs.Calls.{Lent, subject, edited, after, moves, refusal}
use Rattle.rule.specs.Rooms.{held}
use Rattle.rule.specs.Stability.{Rising, Stable}
use Rattle.rule.specs.Facts.{Right}
use Rattle.rule.proofs.Sets.{rising_delete}
use Rattle.rule.proofs.Right.{right_stable, stable_right}
use Rattle.rule.proofs.Demand3.{beside_held, held_has, sits_beside}
use Rattle.rule.proofs.Accepted.{accepted_is, Edited, after_fill}
use Rattle.rule.proofs.Moves.{moved_none}
use Rattle.rule.proofs.Others.{delete_others, delete_own}
use Rattle.rule.proofs.Own.{edit_is, right_before}

-- without an entry that holds nothing every number holds the same
held_without : (n : ℕ) (es : List Entry) → Rising 0 (numbers es) → beside_of es n ≡ 0 → (q : ℕ) → held (delete n es) q
    ≡ held es q
held_without n es up z q =
    split (eqb q n)
    (λ s.
    let h : q ≡ n = eqb-true q n s in
    split (ltb 0 (held (delete n es) n))
    (λ u. absurd (true_false (sym (held_has (delete n es) n (ltb-true 0 (held (delete n es) n) u))
    ∙ delete_own n es up)))
    (λ u. rw h (omega (arith, ltb-false 0 (held (delete n es) n) u, beside_held es 0 n up))))
    (λ s.
    beside_held (delete n es) 0 q (rising_delete n es 0 up) ∙ (delete_others n es).beside q (eqb-false q n s)
    ∙ sym (beside_held es 0 q up))

stable_without : (k : ℕ → ℕ → ℕ) (rs rs' ts : List Entry) → ((q : ℕ) → held rs' q ≡ held rs q) → Stable k rs ts
    → Stable k rs' ts
stable_without k rs rs' ts same st n v i =
    record { room = rw (same v) (st n v i).room; least = λ q h. (st n v i).least q (rw (same q) at h) }

module _ (p : Positions) (m : Lent) (g : Ring) (r : RelayNumber) (small : r.0 < 2 ^ 32)
    (done : is_done (refusal p m g (Remove r)) ≡ true)
    (drained : beside_of g.relays r.0 ≡ 0) where
  abbrev rest : Ring
  rest = record { relays = delete r.0 g.relays; tablets = g.tablets }

  edit : Edited g (Remove r)
  unfolding subject
  edit = edit_is p m g (Remove r) done small

  ok : Right p g
  ok = right_before p m g (Remove r) done

  stays : Right p rest
  unfolding edited
  stays =
      stable_right p rest edit.relays edit.limits edit.tablets
      (stable_without (key p) g.relays (delete r.0 g.relays) g.tablets
      (held_without r.0 g.relays ok.relays.up drained) (right_stable p g ok))

  pub drained_remove : moves p g (Remove r) ≡ []
  unfolding moves edited
  drained_remove =
      let e : (after p g (Remove r)).tablets ≡ g.tablets = after_fill p g (Remove r) edit
      (accepted_is p m g (Remove r) done).enough ∙ sym stays.ruled in
      rw e (moved_none g.tablets g.tablets (λ n v i. sits_beside g.tablets 0 n v ok.tablets.up i))
