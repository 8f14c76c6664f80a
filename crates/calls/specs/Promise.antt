-- What a call promises to a station that also lends a tally (document 01, "Sheet, balance, tally"): its own promise, and the tally with the call
-- counted, refused or not. Assumes nothing.
use Rattle.std.specs.Prelude.{List, ℕ}
use Rattle.rule.specs.declared.Call.{Call}
use Rattle.rule.specs.declared.Reply.{Reply}
use Rattle.promise.specs.Promise.{After, with_tally}
use Rattle.tally.specs.Counted.{tallied}
use Rattle.call_start.specs.Promise.{Lists, after}

unfoldable pub counted_after : ℕ → List ℕ → List ℕ → List ℕ → List ℕ → Call → After Reply (Lists ℕ × List ℕ)
counted_after scheme rs ts ms tally c = with_tally (tallied tally c) (after scheme rs ts ms c)
