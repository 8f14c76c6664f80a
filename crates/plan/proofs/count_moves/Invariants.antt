-- `plan::count_moves` meets its contract. The invariant: c of the first j tablets move. Assumes nothing.
use mathlib.Core.Path.{◌≡◌}
use lib.ListN.{length}
use Rattle.plan.specs.Changes.{changes_to}
use Rattle.plan.proofs.count_moves.Given as goal

abbrev pub invariant-loop-j : goal.invariant-loop-j
invariant-loop-j l = l.c ≡ length (changes_to l.relays l.relay l.tablets l.j)
