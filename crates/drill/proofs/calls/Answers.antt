-- `drill::calls` meets its contract: the list is the definition's, call by call. Assumes nothing.
use mathlib.Core.Path.{refl}
use Rattle.rule.specs.Drill.{drill, replies}
use Rattle.histories.specs.Drilled.{drill_calls}
use Rattle.drill.specs.Calls.{made}
use Rattle.drill.proofs.calls.Goals as goal

pub returns : goal.returns
unfolding made drill_calls drill replies
returns c = refl
