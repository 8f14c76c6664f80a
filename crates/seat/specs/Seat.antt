-- A tablet's seat (document 01, "Replies"), from what a check of right tables has found. Assumes nothing.
use Rattle.std.specs.Prelude.{List, ◌≡◌, ℕ, ◌≤◌, ◌<◌, get_or}
use Rattle.ring.specs.Most.{most_relays}
use Rattle.rule.specs.declared.Refusal.{Refusal}
use Rattle.tables.specs.Table.{tablet_number, tablet_relay, TabletsIn}
use Rattle.survey.specs.declared.Survey.{Survey}
use Rattle.meaning.specs.Ascending.{Ascending}
use Rattle.slots.specs.Slots.{steps_to}
use Rattle.lookup.specs.Spot.{there_in, missing}
use Rattle.seat.specs.declared.Seat.{Seat}

-- the tablets of a survey by rising number, of each its home and its relay's slot
pub record Slotted (ts : List ℕ) (s : Survey) : Type 0 where
  pub relays_few : s.n ≤ most_relays
  pub tablets_fit : TabletsIn ts s.m
  pub numbers : Ascending (tablet_number ts) s.m
  pub homes : (j : ℕ) → j < s.m → get_or s.home j 0 ≤ s.n
  pub slots : (j : ℕ) → j < s.m → get_or s.slot j 0 < s.n

-- tablet x is at that place, with that relay, so many steps from its home
pub record Found (ts : List ℕ) (s : Survey) (x : ℕ) (seat : Seat) : Type 0 where
  pub below : seat.at < s.m
  pub number : tablet_number ts seat.at ≡ x
  pub relay : seat.relay.0 ≡ tablet_relay ts seat.at
  pub passed : seat.passed ≡ steps_to s.n (get_or s.home seat.at 0) (get_or s.slot seat.at 0)

-- why tablet x has no seat: the number is zero, or not there
abbrev pub seat_refusal : List ℕ → Survey → ℕ → Refusal
seat_refusal ts s x = missing x (there_in ts s.m x)
