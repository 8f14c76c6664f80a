-- What a plan answers.
--   ruled_changes_lem                            moves to the relays found are the moves to the rule's
--   limits_planned, list_planned, planned    each way out of a plan
-- Assumes nothing.
use Rattle.std.proofs.Common.{Ok, Err}
use mathlib.Core.Bool.{Bool, true, false}
use mathlib.Core.List.{List}
use mathlib.Core.Path.{◌≡◌, refl, sym, ap, ◌∙◌}
use Prim.Native.Nat.{ℕ, ◌≤◌, ◌<◌}
use borrow.Author.Tests.{lt-ltb, le-ltb, leb-true, leb-false}
use lib.Dec.{leb}
use lib.ListN.{length}
use Rattle.ring.specs.Scheme.{Positions}
use Rattle.rule.specs.declared.Refusal.TheVariants.{LimitsTooSmall, MoveListTooShort}
use Rattle.rule.specs.Entry.{total}
use Rattle.rule.specs.Refusals.{is_done, first_bar}
use Rattle.tables.specs.Table.{relay_number, tablet_number, tablet_relay}
use Rattle.meaning.specs.Meaning.{relays_in}
use Rattle.refill.specs.Refilled.{Refilled}
use Rattle.plan.specs.Changes.{new_relay, changes_to, ruled_relay, ruled_changes}
use Rattle.plan.specs.Plan.{plan_refusal, Planned}
use Rattle.plan.proofs.Changes.{changes_ext}

pub ruled_relay_lem : {p : Positions} {rs ts relay : List ℕ} {n m : ℕ} → Refilled p rs ts n m relay → (j : ℕ) → j < m
    → new_relay rs relay j ≡ ruled_relay p rs ts n j
unfolding new_relay ruled_relay
ruled_relay_lem {rs = rs} f j h = ap (relay_number rs) (f.is j h)

pub ruled_changes_lem : {p : Positions} {rs ts relay : List ℕ} {n m : ℕ} → Refilled p rs ts n m relay
    → changes_to rs relay ts m ≡ ruled_changes p rs ts n m
unfolding changes_to ruled_changes
ruled_changes_lem {p} {rs} {ts} {relay} {n} {m} f =
    changes_ext (tablet_number ts) (tablet_relay ts) (new_relay rs relay) (ruled_relay p rs ts n) m
    (λ j h. ruled_relay_lem f j h)

module _ (p : Positions) (rs ts : List ℕ) (n m places : ℕ) where
  pub limits_planned : total (relays_in rs n) < m → Planned p rs ts n m places (Err LimitsTooSmall)
  unfolding plan_refusal first_bar is_done
  limits_planned h = (rw (lt-ltb _ _ h), refl)

  module _ (enough : m ≤ total (relays_in rs n)) {relay : List ℕ} (f : Refilled p rs ts n m relay) {b : Bool}
      (eb : b ≡ leb (length (changes_to rs relay ts m)) places) where
    same_count : length (ruled_changes p rs ts n m) ≡ length (changes_to rs relay ts m)
    same_count = sym (ap length (ruled_changes_lem f))

    pub list_planned : b ≡ false → Planned p rs ts n m places (Err MoveListTooShort)
    unfolding plan_refusal first_bar is_done
    list_planned h = (rw (le-ltb _ _ enough, same_count, lt-ltb _ _ (leb-false _ _ (sym eb ∙ h))), refl)

    pub planned : b ≡ true → Planned p rs ts n m places (Ok relay)
    unfolding plan_refusal first_bar
    planned h =
        let l : length (changes_to rs relay ts m) ≤ places = leb-true _ _ (sym eb ∙ h) in
        record {
          refusal = rw (le-ltb _ _ enough, same_count, le-ltb _ _ l);
          enough = enough;
          refilled = f;
          fits = l;
        }
