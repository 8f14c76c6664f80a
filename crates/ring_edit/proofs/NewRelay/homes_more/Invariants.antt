-- `NewRelay::homes_more` of `ring_edit` meets its contract. The invariant: the first j homes have moved. Assumes nothing.
use Rattle.ring.specs.Scheme.{positions}
use Rattle.ring_edit.specs.Homes.{HomesMoved, more_at}
use Rattle.ring_edit.proofs.NewRelay.homes_more.Given as goal

abbrev pub invariant-loop-j : goal.invariant-loop-j
invariant-loop-j l =
    HomesMoved (more_at (positions l.self.scheme) l.self.tablets.now l.self.keys.now l.self.slot l.self.after) l.j
    l.initial.home-items l.home-items
