-- Whether the number that was looked for stands at its place.
--   spot_here, spot_is      where it is there, and where a call is not refused for the number, it stands at its place
--   is_there, not_there     whether it is there, by what a search found
--   missing_refused, absent_refused, missing_done    a call about a number that is not there is refused, and of one that is there it is not
--   spot_above              where it is not there, the numbers from its place on are greater
-- Assumes nothing.
use mathlib.Core.Bool.{Bool, true, false, ◌&&◌}
use mathlib.Core.Path.{◌≡◌, refl, sym, ap, ◌∙◌}
use Prim.Native.Nat.{ℕ, ◌≤◌, ◌<◌}
use native.Mathlib.Decide.{dec_lt}
use native.Mathlib.Omega.{arith}
use borrow.Author.Tests.{ltb-true, eqb-true, lt-ltb, eq-eqb, ne_eqb}
use lib.Dec.{eqb, ltb}
use Rattle.ring.proofs.Tests.{split, and_left, and_right, true_false}
use Rattle.rule.specs.Entry.{has}
use Rattle.rule.specs.declared.Refusal.{Refusal}
use Rattle.rule.specs.declared.Refusal.TheVariants.{Done}
use Rattle.rule.specs.Refusals.{is_done, first_bar}
use Rattle.meaning.specs.Meaning.{places}
use Rattle.meaning.specs.Ascending.{Ascending}
use Rattle.meaning.proofs.Places.{has_at, has_place}
use Rattle.lookup.specs.Spot.{Spot, missing}

pub missing_refused : (x : ℕ) → is_done (missing x false) ≡ false
unfolding missing first_bar is_done
missing_refused x = split (eqb x 0) (λ s. rw s) (λ s. rw s)

-- and so what is answered of one that is not there is its refusal
pub absent_refused : (x : ℕ) {there : Bool} {why : Refusal} → there ≡ false → why ≡ missing x false
    → (missing x there ≡ why) × (is_done why ≡ false)
absent_refused x absent e = (ap (missing x) absent ∙ sym e, ap is_done e ∙ missing_refused x)

-- where a call is not refused for the number, it is there
missing_there : (x : ℕ) (there : Bool) → is_done (missing x there) ≡ true → there ≡ true
missing_there x true h = refl
missing_there x false h = absurd (true_false (sym h ∙ missing_refused x))

-- and of one that is there it is not
pub missing_done : (x : ℕ) → 0 < x → missing x true ≡ Done
unfolding missing first_bar
missing_done x h = rw (ne_eqb x 0 (λ e. omega arith))

module _ {f : ℕ → ℕ} (b : ℕ → ℕ) {n x at : ℕ} (a : Ascending f n) (s : Spot f n x at) where
  there_is : has (places f b n) x ≡ (ltb at n && eqb (f at) x)
  there_is = has_at f b n x a at s.below s.from

  pub spot_here : has (places f b n) x ≡ true → (at < n) × (f at ≡ x)
  spot_here h =
      let e : (ltb at n && eqb (f at) x) ≡ true = sym there_is ∙ h in
      (ltb-true at n (and_left (ltb at n) (eqb (f at) x) e), eqb-true (f at) x (and_right (ltb at n) (eqb (f at) x) e))

  pub spot_is : {there : Bool} → there ≡ has (places f b n) x → {r : Refusal} → r ≡ missing x there → is_done r ≡ true
      → (at < n) × (f at ≡ x)
  spot_is {there} et er d = spot_here (sym et ∙ missing_there x there (ap is_done (sym er) ∙ d))

  -- and so whether it is there
  pub is_there : at < n → f at ≡ x → has (places f b n) x ≡ true
  is_there h e = there_is ∙ rw (lt-ltb at n h, eq-eqb (f at) x e)

  pub not_there : ((i : ℕ) → at ≤ i → i < n → x < f i) → has (places f b n) x ≡ false
  not_there above =
      there_is ∙ split (ltb at n)
      (λ t. rw (t, ne_eqb (f at) x (λ e. omega (arith, above at (omega arith) (ltb-true at n t)))))
      (λ t. rw t)

  pub spot_above : has (places f b n) x ≡ false → (i : ℕ) → at ≤ i → i < n → x < f i
  spot_above h i l k = elim (dec_lt x (f i)) [
    | yes d ↦ d
    | no d ↦ absurd (true_false (sym (has_place f b n x i k (omega (arith, s.from i l k))) ∙ h))
  ]
