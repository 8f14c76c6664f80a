-- Who came first plays no part: the tables depend on the sets alone.
--   run_right      right tables stay right over any run of calls, by the positions of the last that is accepted
--   history_free   two runs that end in the same sets, and go by the same positions, end in the same tables
-- Assumes nothing.
use mathlib.Core.Bool.{true}
use mathlib.Core.Path.{◌≡◌, refl, sym, ap, ◌∙◌}
use mathlib.Core.List.{List, [], ◌∷◌}
use mathlib.Core.Logic.{inl, inr}
use Prim.Native.Nat.{ℕ, ◌^◌, ◌<◌}
use native.Mathlib.Omega.{arith}
use borrow.Author.Tests.{eq-eqb, ne_eqb}
use Rattle.ring.specs.Scheme.{Positions}
use Rattle.ring.specs.Clockwise.{key}
use Rattle.ring.proofs.Tests.{split}
use Rattle.rule.specs.Entry.{Entry, numbers, has, beside_of}
use Rattle.rule.specs.Rule.{Ring, right}
use Rattle.rule.specs.Refusals.{is_done}
use Rattle.rule.specs.Calls.{subject, refusal, accepted, declined}
use Rattle.rule.specs.Tally.{Step, Station, step, run, goes_by, gone_by, Fit}
use Rattle.rule.specs.Rooms.{fill}
use Rattle.rule.specs.Stability.{Rising, In}
use Rattle.rule.specs.Facts.{Right}
use Rattle.rule.specs.Sets.{SameSets}
use Rattle.rule.proofs.Sets.{rising_in, rising_ext}
use Rattle.rule.proofs.Right.{right_is}
use Rattle.rule.proofs.Demand3.{has_in, in_has}
use Rattle.rule.proofs.Accepted.{accepted_is, outcome_declined, outcome_right}

-- ---- runs

-- tables that are right stay right, by the positions of the last call that is accepted
module _ (p : Positions) (s : Station) (c : Step) (small : subject c.call < 2 ^ 32)
    (ok : right p s.ring ≡ true) where
  pub step_right : right (goes_by p s c) (step s c).ring ≡ true
  unfolding step goes_by accepted declined
  step_right =
      split (is_done (refusal c.positions c.lent s.ring c.call))
      (λ d.
      let a : right c.positions s.ring ≡ true = (accepted_is c.positions c.lent s.ring
      c.call d).tables in
      rw (d, goes_by) (outcome_right c.positions c.lent s.ring c.call small a))
      (λ d. rw (d, goes_by, outcome_declined c.positions c.lent s.ring c.call d) ok)

pub run_right : (p : Positions) (s : Station) (cs : List Step) → Fit cs → right p s.ring ≡ true
    → right (gone_by p s cs) (run s cs).ring ≡ true
unfolding run gone_by
run_right p s [] f r = r
run_right p s (c ∷ cs) f r = run_right (goes_by p s c) (step s c) cs f.1 (step_right p s c f.0 r)

-- ---- the same sets

-- entries with rising numbers are told by their numbers and what stands beside each
entries_ext : (es fs : List Entry) (low : ℕ) → Rising low (numbers es) → numbers es ≡ numbers fs
    → ((n : ℕ) → In n (numbers es) → beside_of es n ≡ beside_of fs n) → es ≡ fs
unfolding numbers beside_of
entries_ext [] [] low up e b = refl
entries_ext [] (f ∷ fs) low up e b = absurd (let z : ◌≡◌ {A = ℕ} 0 1 = cc in omega arith)
entries_ext (x ∷ es) [] low up e b = absurd (let z : ◌≡◌ {A = ℕ} 0 1 = cc in omega arith)
entries_ext (x ∷ es) (f ∷ fs) low up e b =
    let h : x.number ≡ f.number = cc in
    let r : numbers es ≡ numbers fs = cc in
    let v : x.beside ≡ f.beside = rw (eq-eqb x.number x.number refl, eq-eqb f.number x.number (sym h)) at
    (b x.number (inl refl)) in
    let ih : es ≡ fs = entries_ext es fs x.number up.1 r
    (λ n i.
    let l : x.number < n = rising_in x.number (numbers es) n up.1 i in
    rw (
      ne_eqb x.number n (λ (w : x.number ≡ n). omega arith),
      ne_eqb f.number n
          (λ (w : f.number ≡ n). omega arith),
    ) at (b n (inr i))) in
    λ i. record { number = h i; beside = v i } ∷ ih i

numbers_same : (es fs : List Entry) → Rising 0 (numbers es) → Rising 0 (numbers fs) → ((n : ℕ) → has es n ≡ has fs n)
    → numbers es ≡ numbers fs
numbers_same es fs up up' h =
    rising_ext (numbers es) (numbers fs) 0 up up' (λ n i. has_in fs n (sym (h n) ∙ in_has es n i))
    (λ n i. has_in es n (h n ∙ in_has fs n i))

pub same_tables : (p : Positions) (g₁ g₂ : Ring) → right p g₁ ≡ true → right p g₂ ≡ true → SameSets g₁ g₂ → g₁ ≡ g₂
same_tables p g₁ g₂ t₁ t₂ s =
    let r₁ : Right p g₁ = right_is p g₁ t₁ in
    let r₂ : Right p g₂ = right_is p g₂ t₂ in
    let rs : g₁.relays ≡ g₂.relays =
    entries_ext g₁.relays g₂.relays 0 r₁.relays.up
    (numbers_same g₁.relays g₂.relays r₁.relays.up r₂.relays.up s.relays) (λ n i. s.limits n) in
    let ns : numbers g₁.tablets ≡ numbers g₂.tablets = numbers_same g₁.tablets g₂.tablets r₁.tablets.up
    r₂.tablets.up s.tablets in
    let ts : g₁.tablets ≡ g₂.tablets =
    r₁.ruled ∙ ap (λ (l : List Entry). fill (key p) l (numbers g₁.tablets)) rs ∙ ap (fill (key p) g₂.relays) ns
    ∙ sym r₂.ruled in
    λ i. record { relays = rs i; tablets = ts i }

-- whatever calls led there
pub history_free : (p : Positions) (s₁ s₂ : Station) (cs₁ cs₂ : List Step) → Fit cs₁ → Fit cs₂ → right p s₁.ring
    ≡ true → right p s₂.ring ≡ true
    → gone_by p s₁ cs₁ ≡ gone_by p s₂ cs₂ → SameSets (run s₁ cs₁).ring (run s₂ cs₂).ring → (run s₁ cs₁).ring
    ≡ (run s₂ cs₂).ring
history_free p s₁ s₂ cs₁ cs₂ f₁ f₂ t₁ t₂ e same =
    same_tables (gone_by p s₂ cs₂) (run s₁ cs₁).ring (run s₂ cs₂).ring (rw (← e) (run_right p s₁ cs₁ f₁ t₁))
    (run_right p s₂ cs₂ f₂ t₂) same
