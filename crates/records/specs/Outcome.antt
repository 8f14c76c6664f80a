-- The outcome of a call whose moves go into records (document 01, "The lent tables", "Replies"). Assumes nothing.
use Rattle.std.specs.Prelude.{List, [], ◌++◌, ℕ, length, drop}
use Rattle.ring.specs.Scheme.{known, positions}
use Rattle.rule.specs.declared.Call.{Call}
use Rattle.rule.specs.declared.Move.{Move}
use Rattle.rule.specs.Calls.{Lent, Outcome, outcome}
use Rattle.tables.specs.Table.{relay_places, tablet_places}
use Rattle.meaning.specs.Meaning.{ring_of, fit_tables}
use Rattle.call_start.specs.Promise.{Lists, left}

-- the tables, and a move list with so many places
unfoldable pub lent_with : ℕ → List ℕ → List ℕ → ℕ → Lent
lent_with scheme rs ts room =
    record {
      known = known scheme;
      fit = fit_tables rs ts;
      relay_places = relay_places rs;
      tablet_places = tablet_places ts;
      move_places = room;
    }

-- the outcome that document 01 gives for what is lent
unfoldable pub outcome_with : ℕ → List ℕ → List ℕ → ℕ → Call → Outcome
outcome_with scheme rs ts room c = outcome (positions scheme) (lent_with scheme rs ts room) (ring_of rs ts) c

-- the moves come first; records behind the last move stay as they were
unfoldable pub recorded : List Move → List Move → List Move
recorded ms list = ms ++ drop (length ms) list

-- the tables, whatever list of moves is lent
unfoldable pub tables_after : List ℕ → List ℕ → Outcome → Lists Move
tables_after rs ts o = (left recorded rs ts [] o).lent
