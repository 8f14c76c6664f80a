-- The ways out of a look: which refusal each means, and what is known past them all.
--   unknown_refused, wrong_refused, right_passed    the refusals 1 and 2, and past them
--   unknown_barred, shaped                          what is refused before the placement is looked at, or that nothing is
--   misplaced, looked, placement                    the placement is not right, or it is
--   words_of                                        a slice of u32 has 32-bit numbers
-- Assumes nothing.
use mathlib.Core.Bool.{Bool, true, false}
use mathlib.Core.Path.{◌≡◌, refl, sym, ◌∙◌, subst}
use mathlib.Core.List.{List}
use Prim.Native.Nat.{ℕ}
use lib.ListN.{get_or}
use Rattle.std.proofs.Common.{Result, Ok, Err, Option, Some, None, ok_or, MatchResult}
use mir.Val.{Fits}
use mir.Syntax.{w32}
use Rattle.ring.specs.Scheme.{known, positions}
use Rattle.rule.specs.declared.Refusal.{Refusal}
use Rattle.rule.specs.declared.Refusal.TheVariants.{Done, SchemeUnknown, TablesNotRight}
use Rattle.rule.specs.Refusals.{is_done, first_bar}
use Rattle.tables.specs.Placement.{placed, right}
use Rattle.survey.specs.declared.Survey.{Survey}
use Rattle.survey.specs.Seats.{Surveyed}
use Rattle.entries.specs.declared.Counts.{Counts}
use Rattle.entries.specs.Entries.{ShapesOf}
use Rattle.meaning.specs.Meaning.{tables_bars, tables_refusal, Words}
use Rattle.meaning.proofs.Right.{right_meaning}
use Rattle.call_start.specs.Start.{NotBarred, Start}

-- every number that was read is a word
pub words_of : (l : List ℕ) → ((i : ℕ) → Fits w32 (get_or l i 0)) → Words l
words_of l f = record { fit = λ i. (f i).fits }

module _ (s : ℕ) (rs ts : List ℕ) where
  pub unknown_refused : {k : Bool} → k ≡ known s → k ≡ false → tables_refusal s rs ts ≡ SchemeUnknown
  unfolding tables_refusal tables_bars first_bar
  unknown_refused e h = rw (sym e ∙ h)

  module _ (wr : Words rs) (wt : Words ts) {k : Bool} (e : k ≡ known s) (h : k ≡ true) where
    pub wrong_refused : right (positions s) rs ts ≡ false → tables_refusal s rs ts ≡ TablesNotRight
    unfolding tables_refusal tables_bars first_bar
    wrong_refused w = rw (sym e ∙ h, ← right_meaning s rs ts wr wt, w)

    pub right_passed : right (positions s) rs ts ≡ true → tables_refusal s rs ts ≡ Done
    unfolding tables_refusal tables_bars first_bar
    right_passed w = rw (sym e ∙ h, ← right_meaning s rs ts wr wt, w)

  -- ---- the first look

  pub unknown_barred : {k : Bool} → k ≡ known s → k ≡ false
      → (tables_refusal s rs ts ≡ SchemeUnknown) × (is_done SchemeUnknown ≡ false)
  unfolding is_done
  unknown_barred e h = (unknown_refused e h, refl)

  pub shaped : Words rs → Words ts → {k : Bool} → k ≡ known s → k ≡ true → (o : Option Counts) → ShapesOf rs ts o
      → MatchResult (ok_or o TablesNotRight) (λ c. NotBarred s rs ts c.n c.m)
      (λ why. (tables_refusal s rs ts ≡ why) × (is_done why ≡ false))
  unfolding is_done
  shaped wr wt e h None wrong = (wrong_refused wr wt e h (wrong (positions s)), refl)
  shaped wr wt e h (Some counts) both = record {
    relays_fit = both.relays_fit;
    tablets_fit = both.tablets_fit;
    known = sym e ∙ h;
    relays = both.relays;
    tablets = both.tablets;
    test = both.test (positions s);
  }

  -- ---- and the placement

  module _ (wr : Words rs) (wt : Words ts) {n m : ℕ} (o : NotBarred s rs ts n m) where
    pub misplaced : placed (positions s) rs ts n m ≡ false
        → (tables_refusal s rs ts ≡ TablesNotRight) × (is_done TablesNotRight ≡ false)
    unfolding is_done
    misplaced e = (wrong_refused wr wt (sym o.known) refl (sym o.test ∙ e), refl)

    pub looked : {v : Survey}
        → (placed (positions s) rs ts n m ≡ true) × Surveyed (positions s) rs ts n m v
        → (tables_refusal s rs ts ≡ Done) × Start s rs ts v.n v.m v
    looked {v} (e, g) =
        let fine : right (positions s) rs ts ≡ true = sym o.test ∙ e in (
          right_passed wr wt (sym o.known) refl fine,
          record {
            known = o.known;
            right = sym (right_meaning s rs ts wr wt) ∙ fine;
            relays = g.relays ∙ o.relays;
            tablets = g.tablets ∙ o.tablets;
            surveyed = subst (λ (x : ℕ). Surveyed (positions s) rs ts x v.m v) (sym g.relays)
                (subst (λ (x : ℕ). Surveyed (positions s) rs ts n x v) (sym g.tablets) g);
            relay_words = wr;
            tablet_words = wt;
          },
        )

    -- whatever comes with a look that is done, of it is the survey
    pub placement : {A : Type 0} (of : A → Survey) (r : Result A Refusal)
        → MatchResult r (λ a. (placed (positions s) rs ts n m ≡ true) × Surveyed (positions s) rs ts n m (of a))
        (λ why. (placed (positions s) rs ts n m ≡ false) × (why ≡ TablesNotRight))
        → MatchResult r (λ a. (tables_refusal s rs ts ≡ Done) × Start s rs ts (of a).n (of a).m (of a))
        (λ why. (tables_refusal s rs ts ≡ why) × (is_done why ≡ false))
    placement of (Ok a) e = looked e
    placement of (Err why) (e, i) = rw i (misplaced e)
