-- `refill::refill` meets its contract. The invariant: the first j tablets are placed by the rule, however the positions come. Assumes
-- nothing.
use Rattle.refill.proofs.Refills.{Fills}
use Rattle.refill.proofs.refill.Given as goal

abbrev pub invariant-loop-j : goal.invariant-loop-j
invariant-loop-j l = Fills l.relays l.n l.m l.j l.keys l.home l.room l.next l.relay
