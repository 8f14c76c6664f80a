-- `home::advance` meets its contract. The invariant: a walk to x may begin at k. Assumes nothing.
use Rattle.home.specs.Home.{Begins}
use Rattle.home.proofs.advance.Given as goal

abbrev pub invariant-loop-k : goal.invariant-loop-k
invariant-loop-k l = Begins l.keys l.n l.x l.k
