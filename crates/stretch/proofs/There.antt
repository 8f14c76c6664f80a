-- A relay that is there, at the place where it was looked for.
--   at_roomed                 its load and those of the relays ahead of it can be worked out
--   start_here, load_here     where its tablets start in the sheet, and how many they are
--   end_behind, end_inside    they end behind that, within the sheet
-- Assumes nothing.
use mathlib.Core.Bool.{Bool, true, ◌&&◌}
use mathlib.Core.Path.{◌≡◌, sym, ap, ◌∙◌}
use mathlib.Core.List.{List}
use Prim.Native.Nat.{ℕ, suc, ◌+◌, ◌-◌, ◌≤◌, ◌<◌}
use native.Mathlib.Numerals.{add-one}
use native.Mathlib.Omega.{arith}
use borrow.Author.Tests.{ltb-true, eqb-true}
use lib.Dec.{eqb, ltb}
use Rattle.ring.proofs.Tests.{and_left, and_right}
use Rattle.rule.specs.Entry.{Entry, has, keep, load, loads}
use Rattle.rule.specs.Rule.{Ring}
use Rattle.tables.specs.Table.{relay_number, relay_limit}
use Rattle.survey.specs.declared.Survey.{Survey}
use Rattle.meaning.specs.Meaning.{relays_in, tablets_in, ring_of}
use Rattle.meaning.proofs.Places.{has_at}
use Rattle.call_start.specs.Start.{Start}
use Rattle.call_start.proofs.Refusals.{start_rises, start_ring}
use Rattle.lookup.specs.Spot.{Spot}
use Rattle.loads.specs.Loads.{start_at, Roomed}
use Rattle.loads.proofs.StartsOfStretches.{start_of, held_by, start_next, start_least, roomed_fewer, housed_roomed, start_is}
use Rattle.loads.proofs.Housed.{start_housed}
use Rattle.stretch.proofs.Indices.{keep_below}

module _ {s : ℕ} {rs ts : List ℕ} {v : Survey} (b : Start s rs ts v.n v.m v) {r : ℕ} {there : Bool}
    (et : there ≡ has (relays_in rs v.n) r) (ht : there ≡ true)
    {at : ℕ} (sp : Spot (relay_number rs) v.n r at) where
  here : (ltb at v.n && eqb (relay_number rs at) r) ≡ true
  here =
      sym (has_at (relay_number rs) (relay_limit rs) v.n r (start_rises b).relays at sp.below sp.from) ∙ sym et
      ∙ ht

  inside : at < v.n
  inside = ltb-true at v.n (and_left (ltb at v.n) (eqb (relay_number rs at) r) here)

  number_is : relay_number rs at ≡ r
  number_is = eqb-true (relay_number rs at) r (and_right (ltb at v.n) (eqb (relay_number rs at) r) here)

  pub at_roomed : Roomed rs (at + 1) v.room
  at_roomed = roomed_fewer (housed_roomed (start_housed b)) (at + 1) (omega (arith, inside))

  -- ---- what the loops find

  module _ {from to : ℕ} (ef : from ≡ start_at rs v.room at) (eo : to ≡ start_at rs v.room (at + 1)) where
    start_found : from ≡ start_of rs ts v.m at
    start_found = ef ∙ start_is (start_housed b) at (omega (arith, inside))

    end_found : to ≡ from + held_by rs ts v.m at
    end_found =
        omega (
          arith,
          start_found,
          start_is (start_housed b) (suc at) (omega (arith, inside)),
          start_next rs ts v.m at,
          rw
              (add-one at) at eo,
        )

    pub end_behind : from ≤ to
    end_behind = omega (arith, end_found)

    pub end_inside : to ≤ v.m
    end_inside =
        omega (
          arith,
          end_found,
          start_found,
          start_next rs ts v.m at,
          start_least rs ts v.m (suc at) v.n
              (omega (arith, inside)),
          (start_housed b).all,
        )

    -- ---- and what document 01 says

    pub start_here : from ≡ loads (keep (λ e. ltb e.number r) (ring_of rs ts).relays) (ring_of rs ts).tablets
    start_here =
        start_found
        ∙ sym (ap (λ (g : Ring). loads (keep (λ e. ltb e.number r) g.relays) g.tablets) (start_ring b)
        ∙ ap (λ (l : List Entry). loads l (tablets_in ts v.m)) (keep_below (relay_number rs) (relay_limit rs) r v.n at sp))

    own : load (ring_of rs ts).tablets r ≡ held_by rs ts v.m at
    own = ap (λ (g : Ring). load g.tablets r) (start_ring b) ∙ ap (load (tablets_in ts v.m)) (sym number_is)

    pub load_here : to - from ≡ load (ring_of rs ts).tablets r
    load_here = omega (arith, end_found, own)
