-- A roster's blocks are right tables with an entry in every place exactly where its content is right.
--   full_refused    where the check of the blocks refuses, they are no full tables
--   full_content    full tables are the content
-- Assumes nothing.
use mathlib.Core.Bool.{Bool, true, false, ◌&&◌}
use mathlib.Core.List.{List, [], ◌∷◌}
use mathlib.Core.Path.{◌≡◌, refl, sym, ap, ◌∙◌}
use Prim.Native.Nat.{ℕ, zero, suc, ◌%◌, ◌≤◌, ◌<◌}
use native.Mathlib.Omega.{arith}
use borrow.Author.Tests.{eqb-true, eq-eqb, lt-ltb, le-leb}
use lib.Dec.{eqb}
use lib.ListN.{length}
use Rattle.ring.specs.Most.{most_relays, most_tablets}
use Rattle.ring.specs.Scheme.{known, positions}
use Rattle.ring.proofs.Tests.{split, true_false, and_left, and_right}
use Rattle.rule.specs.declared.Refusal.{Refusal}
use Rattle.rule.specs.Entry.{Entry, numbers}
use Rattle.rule.specs.Rule as Rule
use Rattle.rule.specs.Rule.{Ring}
use Rattle.rule.specs.Refusals.{is_done, first_bar}
use Rattle.rule.specs.Stability.{Rising}
use Rattle.rule.specs.Facts.{Right}
use Rattle.rule.proofs.Right as Right
use Rattle.tables.specs.Table.{relay_places, relay_number, relay_limit, is_whole, tablet_places, tablet_number, tablet_relay, beside_in, number_in, places_of}
use Rattle.tables.specs.Shape.{used, relays_used, tablets_used, fits_in, used_in}
use Rattle.meaning.specs.Meaning.{relays_in, tablets_in, ring_of, fit_tables, tables_right, tables_bars, tables_refusal}
use Rattle.meaning.specs.Ascending.{Ascending}
use Rattle.meaning.proofs.Places.{places_table}
use Rattle.meaning.proofs.Fit.{right_ruled}
use Rattle.meaning.proofs.Right.{same_test}
use Rattle.meaning.proofs.Shapes.{rest_from}
use Rattle.write.specs.Tables.{flat}
use Rattle.roster.specs.Content.{numbered, ring_right}
use Rattle.roster.specs.Inner.{full_tables}
use Rattle.write.proofs.Filled.{length_flat}
use Rattle.roster.proofs.Blocks.{flat_places}

-- ---- what the check refuses

pub full_refused : (s : ℕ) (rs ts : List ℕ) → known s ≡ true → {why : Refusal}
    → (tables_refusal s rs ts ≡ why) × (is_done why ≡ false) → false ≡ full_tables s rs ts
unfolding full_tables tables_refusal tables_bars first_bar is_done
full_refused s rs ts k w =
    split (tables_right s rs ts)
    (λ t. absurd (true_false (sym (ap is_done (sym w.0) ∙ rw (k, t)) ∙ w.1)))
    (λ t. rw t)

-- ---- that it is the content

-- where no number is zero, every place is used
used_all : (number : ℕ → ℕ) (n : ℕ) → ((i : ℕ) → i < n → 0 < number i) → used number n ≡ n
unfolding used
used_all number zero h = refl
used_all number (suc n) h =
    rw (used_all number n (λ i k. h i (omega arith)), lt-ltb 0 (number n) (h n (omega arith))) (omega arith)

rising_numbered : (low : ℕ) (es : List Entry) → Rising low (numbers es) → numbered es ≡ true
unfolding numbers numbered
rising_numbered low [] up = refl
rising_numbered low (e ∷ es) up =
    rw (lt-ltb 0 e.number (omega (arith, up.0))) (rising_numbered e.number es up.1)

module _ (s : ℕ) (es fs : List Entry) (few : length es ≤ most_relays) (fewer : length fs ≤ most_tablets) where
  abbrev ring : Ring
  ring = record { relays = es; tablets = fs }

  abbrev rs : List ℕ
  rs = flat es

  abbrev ts : List ℕ
  ts = flat fs

  abbrev n : ℕ
  n = length es

  abbrev m : ℕ
  m = length fs

  relay_places_lem : relay_places rs ≡ n
  unfolding places_of
  relay_places_lem = omega (arith, length_flat es)

  tablet_places_lem : tablet_places ts ≡ m
  unfolding places_of
  tablet_places_lem = omega (arith, length_flat fs)

  relay_entries : relays_in rs n ≡ es
  unfolding number_in beside_in
  relay_entries = flat_places es

  tablet_entries : tablets_in ts m ≡ fs
  unfolding number_in beside_in
  tablet_entries = flat_places fs

  module _ (er : relays_used rs ≡ n) (et : tablets_used ts ≡ m) where
    full_ring : ring_of rs ts ≡ ring
    unfolding ring_of
    full_ring = rw (er, et, relay_entries, tablet_entries)

    full_fit : fit_tables rs ts ≡ true
    unfolding fit_tables fits_in is_whole
    full_fit =
        rw (
          eq-eqb (length rs % 2) 0 (omega (arith, length_flat es)),
          relay_places_lem,
          le-leb n most_relays few,
          eq-eqb (length ts % 2) 0 (omega (arith, length_flat fs)),
          tablet_places_lem,
          le-leb m most_tablets fewer,
          er,
          et,
          rest_from (relay_number rs) (relay_limit rs) n n (λ i h k. absurd (omega arith)),
          rest_from (tablet_number ts) (tablet_relay ts) m m (λ i h k. absurd (omega arith)),
        )

  full_is : full_tables s rs ts ≡ true → ring_right s ring ≡ true
  unfolding full_tables ring_right
  full_is e =
      let k₁ : Bool = tables_right s rs ts in
      let k₂ : Bool = eqb (relays_used rs) (relay_places rs) in
      let k₃ : Bool = eqb (tablets_used ts) (tablet_places ts) in
      let e₁ : (k₂ && k₃) ≡ true = and_right k₁ (k₂ && k₃) e in
      let er : relays_used rs ≡ n = eqb-true _ _ (and_left k₂ k₃ e₁) ∙ relay_places_lem in
      let et : tablets_used ts ≡ m = eqb-true _ _ (and_right k₂ k₃ e₁) ∙ tablet_places_lem in
      let t : Rule.right (positions s) ring ≡ true =
      ap (Rule.right (positions s)) (sym (full_ring er et)) ∙ right_ruled rs ts s (and_left k₁ (k₂ && k₃) e) in
      let r : Right (positions s) ring = Right.right_is (positions s) ring t in
      rw (rising_numbered 0 es r.relays.up, rising_numbered 0 fs r.tablets.up, t)

  full_from : ring_right s ring ≡ true → full_tables s rs ts ≡ true
  unfolding full_tables tables_right ring_right used_in
  full_from e =
      let k₁ : Bool = numbered es in
      let k₂ : Bool = numbered fs in
      let k₃ : Bool = Rule.right (positions s) ring in
      let t : k₃ ≡ true = and_right k₂ k₃ (and_right k₁ (k₂ && k₃) e) in
      let r : Right (positions s) ring = Right.right_is (positions s) ring t in
      let ar : Ascending (relay_number rs) n = places_table (relay_number rs) (relay_limit rs) n
      (rw relay_entries r.relays) in
      let at : Ascending (tablet_number ts) m = places_table (tablet_number ts) (tablet_relay ts) m
      (rw tablet_entries r.tablets) in
      let er : relays_used rs ≡ n = ap (used (relay_number rs)) relay_places_lem
      ∙ used_all (relay_number rs) n ar.numbered in
      let et : tablets_used ts ≡ m = ap (used (tablet_number ts)) tablet_places_lem
      ∙ used_all (tablet_number ts) m at.numbered in
      rw (
        full_fit er et,
        full_ring er et,
        t,
        eq-eqb (relays_used rs) (relay_places rs) (er ∙ sym relay_places_lem),
        eq-eqb
            (tablets_used ts) (tablet_places ts) (et ∙ sym tablet_places_lem),
      )

  pub full_content : full_tables s rs ts ≡ ring_right s ring
  full_content = same_test (full_tables s rs ts) (ring_right s ring) full_is full_from
