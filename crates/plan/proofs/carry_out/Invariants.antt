-- `plan::carry_out` meets its contract. The invariant: the first j tablets have their new relays, the c of them that moved are listed, and the
-- others are as they were. Assumes nothing.
use Rattle.plan.proofs.Carried.{Carrying}
use Rattle.plan.proofs.carry_out.Given as goal

abbrev pub invariant-loop-j : goal.invariant-loop-j
invariant-loop-j l =
    Carrying l.relays l.relay l.initial.tablets l.tablets l.initial.moves l.moves l.j l.c
