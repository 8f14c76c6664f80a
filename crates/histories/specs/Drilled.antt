-- The drill on lent numbers (document 01, "A drill to prove", "Sheet, balance, tally"): from empty tables and a zero tally, the calls that add its
-- three relays, then its cases 1 to 12. Assumes nothing.
use Rattle.std.specs.Prelude.{List, [], ◌∷◌, ◌++◌, map, ℕ, replicate}
use Rattle.rule.specs.declared.Call.{Call}
use Rattle.rule.specs.declared.Call.TheVariants.{Add}
use Rattle.rule.specs.Drill.{Case, drill}
use Rattle.histories.specs.Runs.{Memory, Step}

-- empty tables of eight places, and a zero tally
unfoldable pub blank : Memory
blank = record { relays = replicate 16 0; tablets = replicate 16 0; tally = replicate 4 0 }

unfoldable pub drill_calls : List Call
drill_calls =
    (Add (record { 0 = 10 }) 1 ∷ Add (record { 0 = 20 }) 2 ∷ Add (record { 0 = 30 }) 1 ∷ []) ++ map
    (λ (c : Case). c.call) drill

-- under scheme 0, each lent a list of eight moves
unfoldable pub drill_steps : List Step
drill_steps = map (λ (c : Call). record { scheme = 0; moves = replicate 24 0; call = c }) drill_calls

-- enrolments, withdrawals, moves and refusals, once case 12 is over
unfoldable pub drill_tally : List ℕ
drill_tally = 4 ∷ 1 ∷ 6 ∷ 3 ∷ []
