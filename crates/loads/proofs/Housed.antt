-- Right tables, as a look has found them, have every tablet with its relay (`start_housed`). Assumes nothing.
use mathlib.Core.Path.{◌≡◌, ap, ◌∙◌}
use mathlib.Core.List.{List}
use Prim.Native.Nat.{ℕ, ◌+◌, ◌≤◌, ◌<◌}
use native.Mathlib.Nat.{le_refl}
use native.Mathlib.Omega.{arith}
use lib.ListN.{get_or}
use Rattle.ring.specs.Scheme.{positions}
use Rattle.rule.specs.Entry.{load, loads}
use Rattle.rule.specs.Rooms.{held}
use Rattle.rule.proofs.Right.{right_loads}
use Rattle.rule.proofs.Tallies.{loads_length}
use Rattle.tables.specs.Table.{relay_number, relay_limit, tablet_number, tablet_relay}
use Rattle.survey.specs.declared.Survey.{Survey}
use Rattle.meaning.specs.Meaning.{relays_in, tablets_in, ring_of}
use Rattle.meaning.specs.Rising.{Rises}
use Rattle.meaning.proofs.Places.{length_places, held_places}
use Rattle.meaning.proofs.Right.{right_found, right_room}
use Rattle.call_start.specs.Start.{Start}
use Rattle.call_start.proofs.Refusals.{start_rises, start_ring}
use Rattle.loads.specs.Loads.{place_of, Housed}

module _ {s : ℕ} {rs ts : List ℕ} {v : Survey} (b : Start s rs ts v.n v.m v) where
  rises : Rises (positions s) rs ts v.n v.m
  rises = start_rises b

  within_limit : (i : ℕ) → i < v.n → load (tablets_in ts v.m) (relay_number rs i) ≤ relay_limit rs i
  within_limit i l =
      let e : held (relays_in rs v.n) (relay_number rs i) ≡ relay_limit rs i = held_places (relay_limit rs)
      rises.relays i l in
      omega (arith, rw (start_ring b) at (right_loads (positions s) (ring_of rs ts) rises.ring (relay_number rs i)))

  room_left : (i : ℕ) → i < v.n → load (tablets_in ts v.m) (relay_number rs i) + get_or v.room i 0 ≡ relay_limit rs i
  room_left i l =
      omega (
        arith,
        within_limit i l,
        ap (λ (z : List ℕ). get_or z i 0) b.surveyed.left,
        right_room rises v.m
            (le_refl v.m) i l,
      )

  all_housed : loads (relays_in rs v.n) (tablets_in ts v.m) ≡ v.m
  all_housed =
      (rw (start_ring b) at (loads_length (positions s) (ring_of rs ts) rises.ring))
      ∙ length_places (tablet_number ts) (tablet_relay ts) v.m

  pub start_housed : Housed rs ts v
  unfolding place_of
  start_housed =
      record {
        relays_fit = rises.relays_fit;
        tablets_fit = rises.tablets_fit;
        numbers = rises.relays;
        left = room_left;
        slots = b.surveyed.seats.inside;
        places = λ j l. b.surveyed.ordered.holds.relay (get_or v.slot j 0) (b.surveyed.seats.inside j l);
        relay = λ j l. ap (relay_number rs) (b.surveyed.seats.relay j l) ∙ (right_found rises j l).is;
        all = all_housed;
      }
