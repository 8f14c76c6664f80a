-- The home of a position (document 01, "The ring"): the first of the relays in ring order by distance clockwise, equal distances by slot, which is by
-- relay number. Assumes nothing.
use Rattle.std.specs.Prelude.{false, List, ◌≡◌, ℕ, ◌-◌, ◌/◌, ◌^◌, ◌≤◌, ◌<◌, get_or}
use Rattle.ring.specs.Scheme.{Positions}
use Rattle.ring.specs.Clockwise.{sooner}
use Rattle.home.specs.Home.{key_at, Home}

-- slots as relays, each where its key says, and every position as a tablet that stands there
abbrev pub in_slots : List ℕ → Positions
in_slots keys = record { relay_at = λ k. get_or keys k 0 / 2 ^ 32; tablet_at = λ t. t }

-- of n slots, position t comes to slot k first
pub record Nearest (keys : List ℕ) (n t k : ℕ) : Type 0 where
  pub inside : k ≤ n - 1
  pub first : (l : ℕ) → l < n → sooner (in_slots keys) t l k ≡ false

-- a walk from a home of n slots goes from slot x: the home itself, or the first slot where the home is past the last
pub data Enters (n home x : ℕ) : Type 0 where
  itself : x ≡ home → Enters n home x
  round : home ≡ n → x ≡ 0 → Enters n home x

-- a walk from position q goes from slot x
pub record HomeAt (keys : List ℕ) (n q x : ℕ) : Type 0 where
  pub slot : ℕ
  pub home : Home keys n (key_at q) slot
  pub enters : Enters n slot x
