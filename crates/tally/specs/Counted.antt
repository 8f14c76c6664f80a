-- The tally as four lent numbers (document 01, "Sheet, balance, tally"). Assumes nothing.
use Rattle.std.specs.Prelude.{true, false, List, [], ◌∷◌, ℕ, eqb, length, get_or}
use Rattle.rule.specs.declared.Call.{Call}
use Rattle.rule.specs.declared.Reply.{Reply}
use Rattle.rule.specs.declared.Tally.{Tally}
use Rattle.rule.specs.Tally.{counted}

-- in the order of the paper
unfoldable pub tally_of : List ℕ → Tally
tally_of l = record { enrolments = get_or l 0 0; withdrawals = get_or l 1 0; moves = get_or l 2 0; refusals = get_or l 3 0 }

unfoldable pub counts : Tally → List ℕ
counts t = t.enrolments ∷ t.withdrawals ∷ t.moves ∷ t.refusals ∷ []

-- a tally of another length than four is left as it is
unfoldable pub tallied : List ℕ → Call → Reply → List ℕ
tallied l c r = elim (eqb (length l) 4) [ true ↦ counts (counted (tally_of l) c r) | false ↦ l ]
