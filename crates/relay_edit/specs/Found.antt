-- What a relay call finds first (document 01, "Replies"): past the refusals 1 and 2, where its relay stands. Assumes nothing.
use Rattle.std.specs.Prelude.{List, ◌≡◌, ℕ}
use Rattle.rule.specs.Entry.{has}
use Rattle.tables.specs.Table.{relay_number}
use Rattle.survey.specs.declared.Survey.{Survey}
use Rattle.meaning.specs.Meaning.{relays_in}
use Rattle.call_start.specs.Start.{Start}
use Rattle.lookup.specs.Spot.{Spot}
use Rattle.relay_edit.specs.declared.found.Found.{Found}

-- right tables; relay r stands at that place, or would stand there; the ring order and the homes are the survey's
pub record Stands (s : ℕ) (rs ts : List ℕ) (r : ℕ) (f : Found) : Type 0 where
  pub survey : Survey
  pub keys : f.around.keys ≡ survey.keys
  pub home : f.around.home ≡ survey.home
  pub start : Start s rs ts f.n f.m survey
  pub spot : Spot (relay_number rs) f.n r f.at
  pub there_is : f.there ≡ has (relays_in rs f.n) r
