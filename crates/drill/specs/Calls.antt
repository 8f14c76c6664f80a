-- The calls that the program makes, and what it lends to each (document 01, "A drill to prove", "Forms for each place"). Assumes nothing.
use Rattle.std.specs.Prelude.{List, [], ◌∷◌, ◌++◌, replicate}
use Rattle.rule.specs.declared.Call.{Call}
use Rattle.rule.specs.declared.Call.TheVariants.{Add, Remove, Set, Withdraw}
use Rattle.rule.specs.declared.Move.{Move}
use Rattle.rule.specs.Calls.{move}
use Rattle.histories.specs.Drilled.{drill_calls}

-- the three relays and cases 1 to 12, then the four calls that follow them, and a 256th and a 257th relay
unfoldable pub made : List Call
made =
    drill_calls
    ++ (Remove (record { 0 = 10 }) ∷ Withdraw (record { 0 = 99 }) ∷ Set (record { 0 = 20 }) 4096 ∷ Set
    (record { 0 = 20 }) 4097
    ∷ Add (record { 0 = 256 }) 0 ∷ Add (record { 0 = 257 }) 0 ∷ [])

-- eight records without a move
abbrev pub blanks : List Move
blanks = replicate 8 (move 0 0 0)
