-- What it means that lent tables fit, and that they are right, part by part.
--   whole_relays, whole_tablets    whole places, and no more than may be lent
--   fit_is                         tables that fit
--   right_fit, right_ruled         right tables fit, and their entries are right by document 01
-- Assumes nothing.
use mathlib.Core.Bool.{Bool, true, ◌&&◌}
use mathlib.Core.Path.{◌≡◌}
use mathlib.Core.List.{List}
use Prim.Native.Nat.{ℕ, ◌≤◌}
use borrow.Author.Tests.{leb-true}
use lib.Dec.{leb}
use Rattle.ring.specs.Most.{most_relays, most_tablets}
use Rattle.ring.specs.Scheme.{positions}
use Rattle.ring.proofs.Tests.{and_left, and_right}
use Rattle.rule.specs.Rule.{right}
use Rattle.tables.specs.Table.{relay_places, relay_number, relay_limit, is_whole, tablet_places, tablet_number, tablet_relay}
use Rattle.tables.specs.Shape.{relays_used, tablets_used, relay_fits, tablet_fits, fits_in}
use Rattle.meaning.specs.Meaning.{ring_of, rest_unused, fit_tables, tables_right}

pub whole_relays : (rs : List ℕ) → relay_fits rs ≡ true → (is_whole rs ≡ true) × (relay_places rs ≤ most_relays)
unfolding fits_in
whole_relays rs e =
    let w : Bool = is_whole rs in
    let f : Bool = leb (relay_places rs) most_relays in
    (and_left w f e, leb-true (relay_places rs) most_relays (and_right w f e))

pub whole_tablets : (ts : List ℕ) → tablet_fits ts ≡ true → (is_whole ts ≡ true) × (tablet_places ts ≤ most_tablets)
unfolding fits_in
whole_tablets ts e =
    let w : Bool = is_whole ts in
    let f : Bool = leb (tablet_places ts) most_tablets in
    (and_left w f e, leb-true (tablet_places ts) most_tablets (and_right w f e))

pub record Fit (rs ts : List ℕ) : Type 0 where
  pub relays : relay_fits rs ≡ true
  pub tablets : tablet_fits ts ≡ true
  pub relays_rest : rest_unused (relay_number rs) (relay_limit rs) (relays_used rs) (relay_places rs) ≡ true
  pub tablets_rest : rest_unused (tablet_number ts) (tablet_relay ts) (tablets_used ts) (tablet_places ts) ≡ true

module _ (rs ts : List ℕ) where
  pub fit_is : fit_tables rs ts ≡ true → Fit rs ts
  unfolding fit_tables
  fit_is e =
      let k₁ : Bool = relay_fits rs in
      let k₂ : Bool = tablet_fits ts in
      let k₃ : Bool = rest_unused (relay_number rs) (relay_limit rs) (relays_used rs) (relay_places rs) in
      let k₄ : Bool = rest_unused (tablet_number ts) (tablet_relay ts) (tablets_used ts) (tablet_places ts) in
      let e₂ : (k₂ && (k₃ && k₄)) ≡ true = and_right k₁ (k₂ && (k₃ && k₄)) e in
      let e₃ : (k₃ && k₄) ≡ true = and_right k₂ (k₃ && k₄) e₂ in
      record {
        relays = and_left k₁ (k₂ && (k₃ && k₄)) e;
        tablets = and_left k₂ (k₃ && k₄) e₂;
        relays_rest = and_left k₃ k₄ e₃;
        tablets_rest = and_right k₃ k₄ e₃;
      }

  module _ (s : ℕ) (ok : tables_right s rs ts ≡ true) where
    pub right_fit : Fit rs ts
    unfolding tables_right
    right_fit = fit_is (and_left (fit_tables rs ts) (right (positions s) (ring_of rs ts)) ok)

    pub right_ruled : right (positions s) (ring_of rs ts) ≡ true
    unfolding tables_right
    right_ruled = and_right (fit_tables rs ts) (right (positions s) (ring_of rs ts)) ok
