-- `row::redirect` meets its contract. The invariant: the first slots are led on, the others as they were. Assumes nothing.
use Rattle.row.specs.Row.{Redirected}
use Rattle.row.proofs.redirect.Given as goal

abbrev pub invariant-loop-x : goal.invariant-loop-x
invariant-loop-x l = Redirected l.x-index l.k l.to l.initial.next l.next
