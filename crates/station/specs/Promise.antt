-- What a call promises to a station that lends a list of move records and a tally (document 01, "The lent tables", "Sheet, balance, tally"):
-- the full reply and every lent place afterwards, for accepted and refused calls alike. Assumes nothing.
use Rattle.std.specs.Prelude.{List, ℕ, length}
use Rattle.rule.specs.declared.Call.{Call}
use Rattle.rule.specs.declared.Move.{Move}
use Rattle.rule.specs.declared.Reply.{Reply}
use Rattle.rule.specs.declared.Tally.{Tally}
use Rattle.rule.specs.Tally.{counted}
use Rattle.promise.specs.Promise.{After, with_tally}
use Rattle.call_start.specs.Promise.{Lists, left}
use Rattle.records.specs.Outcome.{outcome_with, recorded}

-- the promise of a call, with its moves as records, and the tally with the call counted
unfoldable pub attended : ℕ → List ℕ → List ℕ → List Move → Tally → Call → After Reply (Lists Move × Tally)
attended s rs ts list t c = with_tally (counted t c) (left recorded rs ts list (outcome_with s rs ts (length list) c))
