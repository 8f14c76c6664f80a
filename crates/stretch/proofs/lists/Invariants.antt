-- `stretch::lists` meets its contract. The invariant: the first j tablets stand at their indices, and `next` has the next index of each relay.
-- Assumes nothing.
use Rattle.stretch.proofs.Compared.{Lists}
use Rattle.stretch.proofs.lists.Given as goal

abbrev pub invariant-loop-j : goal.invariant-loop-j
invariant-loop-j l = Lists l.relays l.tablets l.survey.n l.survey.m l.j l.sheet l.next
