-- What carrying out a plan writes (document 01, "The lent tables"): the tablets' new relays, and the moves. Assumes nothing.
use Rattle.std.specs.Prelude.{false, cond, List, ◌≡◌, ℕ, ◌+◌, ◌*◌, ◌≤◌, ◌<◌, eqb, length}
use Rattle.tables.specs.Table.{relay_places, relay_number, tablet_places, tablet_number, tablet_relay}
use Rattle.meaning.specs.Meaning.{places}
use Rattle.write.specs.Tables.{listed}
use Rattle.write.specs.Wrote.{WroteEntries}
use Rattle.place.specs.Places.{SetBeside}
use Rattle.place.specs.MoveList.{set_move}
use Rattle.plan.specs.Changes.{new_relay, changes_to}
use Rattle.plan.specs.Plan.{Assigned}

-- there is room in the list for the move of the tablet at place j, the c-th, where it is to have another relay
pub record MovesOne (rs ts ms : List ℕ) (i j c : ℕ) : Type 0 where
  pub relay : i < relay_places rs
  pub tablet : j < tablet_places ts
  pub room : eqb (tablet_relay ts j) (relay_number rs i) ≡ false → 3 * (c + 1) ≤ length ms

-- the tablet at place j has the relay at place i; where that is another than before it is listed
pub record MovedOne (rs ts ts' ms ms' : List ℕ) (i j c c' : ℕ) : Type 0 where
  pub tablets : SetBeside tablet_number tablet_relay ts ts' j (relay_number rs i)
  pub list : ms' ≡ cond (eqb (tablet_relay ts j) (relay_number rs i)) ms
      (set_move ms c (tablet_number ts j) (tablet_relay ts j) (relay_number rs i))
  pub count : c' ≡ cond (eqb (tablet_relay ts j) (relay_number rs i)) c (c + 1)

pub record Carries (rs relay ts ms : List ℕ) (m : ℕ) : Type 0 where
  pub seated : Assigned rs relay ts m
  pub room : 3 * length (changes_to rs relay ts m) ≤ length ms

pub record Carried (rs relay ts ts' ms ms' : List ℕ) (m c : ℕ) : Type 0 where
  pub tablets : WroteEntries ts ts' m (places (tablet_number ts) (new_relay rs relay) m)
  pub list : ms' ≡ listed (changes_to rs relay ts m) ms
  pub count : c ≡ length (changes_to rs relay ts m)
