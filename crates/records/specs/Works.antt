-- What a call on the tables leaves for the move list and the tally (document 01, "The lent tables", "Sheet, balance, tally"). Assumes nothing.
use Rattle.std.specs.Prelude.{List, ◌≡◌, ℕ, ◌*◌, ◌≤◌, take, length}
use Rattle.ring.specs.Most.{most_tablets}
use Rattle.rule.specs.declared.Call.{Call}
use Rattle.rule.specs.declared.Reply.{Reply}
use Rattle.write.specs.Tables.{flat_moves}
use Rattle.records.specs.Outcome.{outcome_with, tables_after}

pub record Works (s : ℕ) (rs ts : List ℕ) (room : ℕ) (c : Call) (r : Reply) (numbers rs' ts' : List ℕ) : Type 0 where
  pub reply : r ≡ (outcome_with s rs ts room c).reply
  pub relays : rs' ≡ (tables_after rs ts (outcome_with s rs ts room c)).relays
  pub tablets : ts' ≡ (tables_after rs ts (outcome_with s rs ts room c)).tablets
  -- the numbers begin with the moves
  pub count : r.moves ≡ length (outcome_with s rs ts room c).moves
  pub moves : take (3 * r.moves) numbers ≡ flat_moves (outcome_with s rs ts room c).moves
  pub fits : r.moves ≤ room
  pub few : 3 * r.moves ≤ 3 * most_tablets
