-- How those who gave way to a newcomer sit down (document 01, "The rule of placement", "The lent tables"). Assumes nothing.
use Rattle.std.specs.Prelude.{List, ◌≡◌, ℕ, ◌≤◌, length}
use Rattle.rule.specs.Entry.{put}
use Rattle.rule.specs.Sweeps.{seated}
use Rattle.tables.specs.Table.{relay_number, tablet_number, tablet_relay}
use Rattle.meaning.specs.Meaning.{tablets_in}
use Rattle.write.specs.Tables.{listed}
use Rattle.place.specs.MoveList as Listing
use Rattle.chain.specs.declared.Chain.{Chain}
use Rattle.newcomer.specs.Newcomer.{others_of}

-- the tablet at place j sits down at another relay, as move c of the list; the relays are told by their places
pub record OneSeated (rs ts ts' ms ms' : List ℕ) (m c j old new : ℕ) : Type 0 where
  pub entries : tablets_in ts' m ≡ put (tablet_number ts j) (relay_number rs new) (tablets_in ts m)
  pub size : length ts' ≡ length ts
  pub numbers : (i : ℕ) → tablet_number ts' i ≡ tablet_number ts i
  pub relays : (i : ℕ) → m ≤ i → tablet_relay ts' i ≡ tablet_relay ts i
  pub list : ms' ≡ Listing.set_move ms c (tablet_number ts j) (relay_number rs old) (relay_number rs new)

-- c of them are seated in the table and listed
pub record OthersSeated (x : ℕ) (rs ts ms : List ℕ) (z : Chain) (ts' ms' : List ℕ) (m c : ℕ) : Type 0 where
  pub size : length ts' ≡ length ts
  pub numbers : (i : ℕ) → tablet_number ts' i ≡ tablet_number ts i
  pub relays : (i : ℕ) → m ≤ i → tablet_relay ts' i ≡ tablet_relay ts i
  pub entries : tablets_in ts' m ≡ seated (others_of x rs ts z.place z.seat c) (tablets_in ts m)
  pub list : ms' ≡ listed (others_of x rs ts z.place z.seat c) ms
