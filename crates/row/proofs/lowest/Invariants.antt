-- `row::lowest` meets its contract. The invariant: the first k slots have no room. Assumes nothing.
use Rattle.row.proofs.Leads.{Emptied}
use Rattle.row.proofs.lowest.Given as goal

abbrev pub invariant-loop-k : goal.invariant-loop-k
invariant-loop-k l = Emptied l.keys l.room l.k
