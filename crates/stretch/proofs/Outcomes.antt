-- From what a look found to the bounds of a stretch.
--   look_bounds      the look is refused
--   absent_bounds    the relay is not there
--   other_bounds     its first numbers are not these tables' sheet
--   found_bounds     none of these: behind the tablets of all relays with lower numbers
-- Assumes nothing.
use mathlib.Core.Bool.{Bool, true, false, ◌&&◌, and-false}
use mathlib.Core.Path.{◌≡◌, refl, sym, ap, ◌∙◌}
use mathlib.Core.List.{List, []}
use Prim.Native.Nat.{ℕ, ◌+◌, ◌≤◌}
use native.Mathlib.Omega.{arith}
use lib.ListN.{length}
use Rattle.ring.specs.Scheme.{known, positions}
use Rattle.ring.proofs.Tests.{split, true_false}
use Rattle.rule.specs.declared.Refusal.{Refusal}
use Rattle.rule.specs.Entry.{has}
use Rattle.rule.specs.Rule.{Ring}
use Rattle.rule.specs.Refusals.{is_done, first_bar}
use Rattle.rule.specs.Sheet.{Stretch, begins, sheet_from, sheet, sheet_fits, stretch}
use Rattle.tables.specs.Table.{relay_number}
use Rattle.survey.specs.declared.Survey.{Survey}
use Rattle.meaning.specs.Meaning.{relays_in, tablets_in, ring_of, tables_right, tables_bars, tables_refusal, lent_of}
use Rattle.call_start.specs.Start.{Start}
use Rattle.call_start.proofs.Refusals.{start_ring}
use Rattle.lookup.specs.Spot.{Spot}
use Rattle.loads.specs.Loads.{start_at}
use Rattle.sheet.proofs.Lists.{sheet_length}
use Rattle.loads.proofs.Housed.{start_housed}
use Rattle.stretch.specs.Promise.{stretch_of}
use Rattle.stretch.specs.Bounds.{Bounds}
use Rattle.stretch.proofs.Begins.{begins_long}
use Rattle.stretch.proofs.There.{end_behind, end_inside, start_here, load_here}

module _ (s : ℕ) (rs ts lent : List ℕ) (r : ℕ) where
  abbrev part : Stretch
  part = stretch_of s rs ts lent r

  abbrev fits : Bool
  fits = sheet_fits (positions s) (lent_of s rs ts []) (ring_of rs ts) lent r

  none_bounds : fits ≡ false → Bounds part (length lent) 0 0
  unfolding stretch_of stretch
  none_bounds e =
      rw (e, stretch) (record { order = omega arith; inside = omega arith; start = refl; len = omega arith })

  past_tables : fits ≡ ((known s && tables_right s rs ts)
      && (begins (sheet (ring_of rs ts)) lent && has (ring_of rs ts).relays r))
  unfolding sheet_fits lent_of tables_right
  past_tables = refl

  -- the scheme is unknown, or the tables are not right
  not_right : is_done (tables_refusal s rs ts) ≡ false → (known s && tables_right s rs ts) ≡ false
  unfolding tables_refusal tables_bars first_bar is_done
  not_right h =
      split (known s)
      (λ k. split (tables_right s rs ts) (λ t. absurd (true_false (rw (k, t) at h))) (λ t. rw (k, t)))
      (λ k. rw k)

  pub look_bounds : {why : Refusal} → (tables_refusal s rs ts ≡ why) × (is_done why ≡ false)
      → Bounds (stretch_of s rs ts lent r) (length lent) 0 0
  look_bounds w = none_bounds (past_tables ∙ rw (not_right (ap is_done w.0 ∙ w.1)))

  module _ {v : Survey} (b : Start s rs ts v.n v.m v) where
    abbrev whole : List ℕ
    whole = sheet_from (relays_in rs v.n) (tablets_in ts v.m)

    -- past the look, the sheet and the relay are left
    fits_is : fits ≡ (begins (sheet_from (relays_in rs v.n) (tablets_in ts v.m)) lent && has (relays_in rs v.n) r)
    unfolding sheet
    fits_is =
        past_tables ∙ rw (b.known, b.right) (ap
        (λ (g : Ring). begins (sheet_from g.relays g.tablets) lent && has g.relays r) (start_ring b))

    other : begins (sheet_from (relays_in rs v.n) (tablets_in ts v.m)) lent ≡ false → fits ≡ false
    other e = fits_is ∙ rw e

    pub absent_bounds : {there : Bool} → there ≡ has (relays_in rs v.n) r → there ≡ false
        → Bounds (stretch_of s rs ts lent r) (length lent) 0 0
    absent_bounds et h = none_bounds (fits_is ∙ rw (sym et ∙ h) (and-false (begins whole lent)))

    pub other_bounds : {theirs : Bool} → theirs ≡ begins (sheet_from (relays_in rs v.n) (tablets_in ts v.m)) lent
        → theirs ≡ false
        → Bounds (stretch_of s rs ts lent r) (length lent) 0 0
    other_bounds eb h = none_bounds (other (sym eb ∙ h))

    pub found_bounds : {there : Bool} (et : there ≡ has (relays_in rs v.n) r) (ht : there ≡ true) {at : ℕ}
        (sp : Spot (relay_number rs) v.n r at)
        → {theirs : Bool} → theirs ≡ begins (sheet_from (relays_in rs v.n) (tablets_in ts v.m)) lent → theirs ≡ true
        → {from to : ℕ} → (from ≡ start_at rs v.room at) × (to ≡ start_at rs v.room (at + 1))
        → Bounds part (length lent) from to
    unfolding stretch_of stretch
    found_bounds {there} et ht {at} sp {theirs} eb hb {from} {to} e =
        let own : begins whole lent ≡ true = sym eb ∙ hb in
        let yes : fits ≡ true = fits_is ∙ rw (own, sym et ∙ ht) in
        let long : length whole ≤ length lent = begins_long whole lent own in
        rw (yes, stretch)
        (record {
          order = end_behind b et ht sp e.0 e.1;
          inside = omega (
            arith,
            end_inside b et ht sp e.0 e.1,
            sheet_length (relays_in rs v.n)
                (tablets_in ts v.m),
            (start_housed b).all,
          );
          start = start_here b et ht sp e.0 e.1;
          len = load_here b et ht sp e.0 e.1;
        })
