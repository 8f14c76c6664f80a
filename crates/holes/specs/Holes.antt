-- Who fills the holes of a withdrawal (document 01, "The rule of placement"), by the homes and the relays' slots of the tablets, by rising
-- number, as a check of right tables has found them. The law `movers_holes` says that these are the moves. Assumes nothing.
use Rattle.std.specs.Prelude.{◌≡◌, ℕ, zero, suc, ◌+◌, ◌-◌, ◌%◌, ◌<◌, ◌≤◌, Bool, true, false, List, [], ◌∷◌, length, take, ◌≢◌, nat_lt, slice_index}
use Rattle.ring.specs.Most.{most_relays, most_tablets}
use Rattle.row.specs.Row.{slot_room}
use Rattle.survey.specs.declared.Survey.{Survey}
use Rattle.holes.specs.declared.Movers.{Movers}

-- how many slots slot k is clockwise from slot h, on a ring of as many as there may be relays
unfoldable pub around : ℕ → ℕ → ℕ
around h k = (k + (most_relays - h)) % most_relays

-- the tablet at place j had passed the relay of the tablet at place i: that is nearer to its home than its own
unfoldable pub passed_at : List ℕ → List ℕ → ℕ → ℕ → Bool
passed_at home slot i j = nat_lt (around (slice_index home j) (slice_index slot i)) (around (slice_index home j) (slice_index slot j))

-- of so many tablets from place j on, those who move when the tablet at place i leaves its relay: the first that had passed it takes the
-- hole, and leaves its own
unfoldable pub movers : List ℕ → List ℕ → ℕ → ℕ → ℕ → List ℕ
movers home slot i j zero = []
movers home slot i j (suc left) =
    elim (passed_at home slot i j) [
      | true ↦ j ∷ movers home slot j (suc j) left
      | false ↦ movers home slot i (suc j) left
    ]

-- what the sweep knows of right tables
pub record Sweeps (s : Survey) : Type 0 where
  pub few : s.m ≤ most_tablets
  pub slots : (j : ℕ) → j < s.m → slice_index s.slot j < most_relays
  -- nobody had passed a relay with room
  pub roomy : (i j : ℕ) → i < s.m → j < s.m → 0 < slot_room s.keys s.room (slice_index s.slot i)
      → passed_at s.home s.slot i j ≡ false
  -- who had passed a relay has a greater number than all tablets there
  pub shut : (i j l : ℕ) → i < s.m → passed_at s.home s.slot i j ≡ true → j ≤ l → l < s.m
      → slice_index s.slot l ≢ slice_index s.slot i

-- r is the first place behind place i whose tablet had passed the relay of the tablet there, and past all tablets where none had
pub record Next (s : Survey) (i r : ℕ) : Type 0 where
  pub low : i < r
  pub high : r ≤ s.m
  pub skipped : (j : ℕ) → i < j → j < r → passed_at s.home s.slot i j ≡ false
  pub passed : r < s.m → passed_at s.home s.slot i r ≡ true

-- places that rise, between two
pub record Climbing (places : List ℕ) (low high : ℕ) : Type 0 where
  pub above : (c : ℕ) → c < length places → low < slice_index places c
  pub below : (c : ℕ) → c < length places → slice_index places c < high
  pub up : (c d : ℕ) → c < d → d < length places → slice_index places c < slice_index places d

-- these are those who move when the tablet at place `at` leaves its relay
pub record MoversAre (s : Survey) (at : ℕ) (who : Movers) : Type 0 where
  pub size : length who.places ≡ most_relays
  pub few : who.count ≤ most_relays
  pub climbs : Climbing (take who.count who.places) at s.m
  pub are : take who.count who.places ≡ movers s.home s.slot at (suc at) (s.m - suc at)
