-- How those who fill the holes of a withdrawal sit down (document 01, "The rule of placement", "The lent tables"). Assumes nothing.
use Rattle.std.specs.Prelude.{◌≡◌, ℕ, ◌-◌, ◌*◌, ◌<◌, ◌≤◌, List, [], ◌∷◌, length, slice_index}
use Rattle.ring.specs.Most.{most_relays}
use Rattle.rule.specs.declared.Move.{Move}
use Rattle.rule.specs.Entry.{delete}
use Rattle.rule.specs.Calls.{move}
use Rattle.rule.specs.Sweeps.{seated}
use Rattle.tables.specs.Table.{tablet_places, tablet_number, tablet_relay}
use Rattle.meaning.specs.Meaning.{tablets_in}
use Rattle.meaning.specs.Ascending.{Ascending}
use Rattle.write.specs.Wrote.{WroteEntries}
use Rattle.write.specs.Places.{TookOut}

-- the moves of the tablets at these places: the first to relay r, each other to the relay that the one before leaves
unfoldable pub moves_of : List ℕ → ℕ → List ℕ → List Move
moves_of ts r [] = []
moves_of ts r (j ∷ js) = move (tablet_number ts j) (tablet_relay ts j) r ∷ moves_of ts (tablet_relay ts j) js

-- m tablets by rising number, rising places among them, and a move list that is long enough
pub record Fillers (ts ms : List ℕ) (m : ℕ) (places : List ℕ) : Type 0 where
  pub there : m ≤ tablet_places ts
  pub numbers : Ascending (tablet_number ts) m
  pub few : length places ≤ most_relays
  pub below : (c : ℕ) → c < length places → slice_index places c < m
  pub up : (c d : ℕ) → c < d → d < length places → slice_index places c < slice_index places d
  pub long : 3 * length places ≤ length ms

-- the first m tablets sit by these moves, every number stays, and so do the places behind them
pub record MovedUp (before after : List ℕ) (m : ℕ) (moves : List Move) : Type 0 where
  pub wrote : WroteEntries before after m (seated moves (tablets_in before m))
  pub numbers : (i : ℕ) → tablet_number after i ≡ tablet_number before i

-- so they sit without the tablet at place `at`
pub record Filled (before after : List ℕ) (m at : ℕ) (moves : List Move) : Type 0 where
  pub took : TookOut tablet_number tablet_relay before after (m - 1)
      (seated moves (delete (tablet_number before at) (tablets_in before m)))
