-- The drill (document 01, "A drill to prove"): cases 1 to 12 as entries of one list. The law `drill_holds` is the statement over it.
-- Assumes nothing.
use Rattle.std.specs.Prelude.{true, List, [], ◌∷◌, ℕ, length}
use Rattle.ring.specs.Most.{most_relays, most_tablets}
use Rattle.ring.specs.Scheme.{Positions}
use Rattle.rule.specs.declared.Refusal.{Refusal}
use Rattle.rule.specs.declared.Refusal.TheVariants.{Done, ThereAlready, LimitsTooSmall}
use Rattle.rule.specs.declared.Call.{Call}
use Rattle.rule.specs.declared.Call.TheVariants.{Add, Remove, Set, Enrol, Withdraw, Find}
use Rattle.rule.specs.declared.Reply.{Reply}
use Rattle.rule.specs.declared.Move.{Move}
use Rattle.rule.specs.Entry.{entry}
use Rattle.rule.specs.Rule.{Ring}
use Rattle.rule.specs.Refusals.{replied}
use Rattle.rule.specs.Calls.{Lent, move, Outcome, outcome}

-- what a call answers: the reply, and the moves
pub record Answer : Type 0 where
  pub reply : Reply
  pub moves : List Move

-- the answers to these calls, one after the other
unfoldable pub answers : Positions → Lent → Ring → List Call → List Answer
answers p m g [] = []
answers p m g (c ∷ cs) =
    let o : Outcome = outcome p m g c in
    record { reply = o.reply; moves = o.moves } ∷ answers p m o.ring cs

-- ---- the paper's table

pub record Case : Type 0 where
  pub call : Call
  pub answer : Answer

-- a call, and its reply: refusal, relay, passed, moves
unfoldable pub replies : Call → Refusal → ℕ → ℕ → List Move → Case
replies c refusal relay passed ms =
    record { call = c; answer = record { reply = replied refusal relay passed (length ms); moves = ms } }

unfoldable pub drill_ring : Ring
drill_ring = record { relays = entry 10 1 ∷ entry 20 2 ∷ entry 30 1 ∷ []; tablets = [] }

unfoldable pub drill_lent : Lent
drill_lent =
    record { known = true; fit = true; relay_places = most_relays; tablet_places = most_tablets; move_places = most_tablets }

unfoldable pub drill : List Case
drill =
    replies (Enrol (record { 0 = 5 })) Done 10 0 []
    ∷ replies (Enrol (record { 0 = 3 })) Done 10 1 (move 5 10 20 ∷ [])
    ∷ replies (Enrol (record { 0 = 31 })) Done 20 1 []
    ∷ replies (Enrol (record { 0 = 12 })) Done 20 1 (move 31 20 30 ∷ [])
    ∷ replies (Enrol (record { 0 = 40 })) LimitsTooSmall 0 0 []
    ∷ replies (Enrol (record { 0 = 12 })) ThereAlready 0 0 []
    ∷ replies (Find (record { 0 = 31 })) Done 30 2 []
    ∷ replies (Withdraw (record { 0 = 3 })) Done 10 0 (move 5 20 10 ∷ move 31 30 20 ∷ [])
    ∷ replies (Add (record { 0 = 4 }) 1) Done 4 0 (move 31 20 4 ∷ [])
    ∷ replies (Set (record { 0 = 10 }) 0) Done 10 0 (move 5 10 20 ∷ [])
    ∷ replies (Find (record { 0 = 5 })) Done 20 1 []
    ∷ replies (Remove (record { 0 = 20 })) LimitsTooSmall 0 0 []
    ∷ []
