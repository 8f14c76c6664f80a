-- `ring_edit::homes_less` meets its contract. The invariant: the first homes have moved. Assumes nothing.
use Rattle.ring_edit.specs.Homes.{HomesMoved, less_at}
use Rattle.ring_edit.proofs.homes_less.Given as goal

abbrev pub invariant-loop-home : goal.invariant-loop-home
invariant-loop-home l = HomesMoved (less_at l.s) l.home-index l.initial.home-items l.home-items
