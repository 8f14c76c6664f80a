-- `enrol::seat_others` meets its contract. The invariant: the first c of those who gave way are seated in the table and listed, and every number
-- of the table stands where it stood.
-- Assumes nothing.
use Prim.Native.Nat.{ℕ}
use Rattle.enrol.specs.Enrol.{OthersSeated}
use Rattle.enrol.proofs.seat_others.Given as goal

abbrev pub invariant-loop-c : goal.invariant-loop-c
invariant-loop-c l = (x : ℕ) → OthersSeated x l.relays l.initial.tablets l.initial.moves l.chain l.tablets l.moves l.m l.c
