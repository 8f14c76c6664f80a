-- A lent sheet, held to the tables in one pass over the tablets.
--   lists_short                it is shorter than the tablets, and so not theirs
--   lists_start, lists_more    before the first tablet, and one more that stands at its index
--   lists_end                  all do: the sheet is the tables' own
--   lists_not                  one does not: it is not
-- Assumes nothing.
use mathlib.Core.Bool.{true, false}
use mathlib.Core.Path.{◌≡◌, sym, ap, ◌∙◌}
use mathlib.Core.List.{List}
use Prim.Native.Nat.{ℕ, ◌+◌, ◌≤◌, ◌<◌}
use native.Mathlib.Nat.{le_antisymm}
use native.Mathlib.Numerals.{add-one}
use native.Mathlib.Omega.{arith}
use lib.ListN.{length, get_or, set, take}
use Rattle.rule.specs.Sheet.{sheet_from, begins}
use Rattle.tables.specs.Table.{tablet_number}
use Rattle.tables.specs.Placement.{array}
use Rattle.survey.specs.declared.Survey.{Survey}
use Rattle.meaning.specs.Meaning.{relays_in, tablets_in}
use Rattle.loads.specs.Loads.{start_at, place_of, Housed}
use Rattle.sheet.proofs.Lists.{sheet_length}
use Rattle.loads.proofs.StartsOfStretches.{start_of, held_by}
use Rattle.sheet.proofs.Fills.{Fills, fills_none, fills_more, fills_all}
use Rattle.sheet.proofs.NextIndices.{Points, points_start, points_at, points_inside, points_more}
use Rattle.stretch.proofs.Begins.{begins_take, begins_apart, begins_short}
use Rattle.stretch.proofs.Indices.{sheet_index}

-- the first j tablets stand at their indices
pub record Lists (rs ts : List ℕ) (n m j : ℕ) (s next : List ℕ) : Type 0 where
  pub points : Points rs ts n m j next
  pub fills : Fills rs ts n m j s

module _ {rs ts : List ℕ} {v : Survey} (h : Housed rs ts v) (s : List ℕ) where
  abbrev whole : List ℕ
  whole = sheet_from (relays_in rs v.n) (tablets_in ts v.m)

  size : length (sheet_from (relays_in rs v.n) (tablets_in ts v.m)) ≡ v.m
  size = sheet_length (relays_in rs v.n) (tablets_in ts v.m) ∙ h.all

  pub lists_short : length s < v.m → false ≡ begins (sheet_from (relays_in rs v.n) (tablets_in ts v.m)) s
  lists_short l = sym (begins_short whole s (omega (arith, size)))

  pub lists_start : {next : List ℕ} → next ≡ array (start_at rs v.room) v.n → Lists rs ts v.n v.m 0 s next
  lists_start e = record { points = points_start h e; fills = fills_none rs ts v.n v.m s }

  module _ (j : ℕ) (l : j < v.m) {next : List ℕ} (y : Lists rs ts v.n v.m j s next) {i at x : ℕ}
      (ei : i ≡ place_of v.keys v.slot j) (ea : at ≡ get_or next i 0) (ev : x ≡ tablet_number ts j) where
    index : at ≡ start_of rs ts v.m (place_of v.keys v.slot j) + held_by rs ts j (place_of v.keys v.slot j)
    index = points_at h j l y.points ei ea

    pub lists_more : get_or s at 0 ≡ x → Lists rs ts v.n v.m (j + 1) s (set next i (at + 1))
    lists_more e =
        rw (add-one j)
        (record {
          points = points_more h j l y.points ei ea;
          fills = fills_more rs ts v.n v.m j (place_of v.keys v.slot j) (sym (h.relay j l)) y.fills h.numbers
              (h.places j l)
              (ap (λ (z : ℕ). get_or s z 0) (sym index) ∙ e ∙ ev);
        })

    pub lists_not : (get_or s at 0 ≡ x → ⊥) → false ≡ begins (sheet_from (relays_in rs v.n) (tablets_in ts v.m)) s
    lists_not d =
        let here : get_or whole at 0 ≡ tablet_number ts j =
        ap (λ (z : ℕ). get_or whole z 0) index ∙ sheet_index rs ts v.m v.n j (place_of v.keys v.slot j) l (h.places j l)
        (sym (h.relay j l)) in
        sym (begins_apart whole s at (omega (arith, size, points_inside h j l y.points ei ea))
        (λ (u : get_or s at 0 ≡ get_or whole at 0). d (u ∙ here ∙ sym ev)))

  pub lists_end : v.m ≤ length s → {j : ℕ} → j ≤ v.m → v.m ≤ j → {next : List ℕ} → Lists rs ts v.n v.m j s next
      → true ≡ begins (sheet_from (relays_in rs v.n) (tablets_in ts v.m)) s
  lists_end w p q y =
      let f : Fills rs ts v.n v.m v.m s = rw (le_antisymm p q) at y.fills in
      sym (begins_take whole s
      (ap (λ (z : ℕ). take z s) (size ∙ sym h.all) ∙ fills_all rs ts v.n v.m f (omega (arith, h.all))))
