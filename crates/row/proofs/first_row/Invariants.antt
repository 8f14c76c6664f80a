-- `row::first_row` meets its contract. The invariant: from slot k on the row leads to the first slot with room, and so does `lead` from k.
-- Assumes nothing.
use Rattle.row.specs.Row.{Leads, Row}
use Rattle.row.proofs.first_row.Given as goal

abbrev pub invariant-loop-k : goal.invariant-loop-k
invariant-loop-k l = Row l.keys l.room l.n l.k l.next × Leads l.keys l.room l.n l.k l.lead
