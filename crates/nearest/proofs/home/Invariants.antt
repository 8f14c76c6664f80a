-- `nearest::home` meets its contract. The invariant: of the first k slots p comes to `first` first, and `least` is how far that is. Assumes nothing.
use Rattle.nearest.proofs.Nearer.{Scanned}
use Rattle.nearest.proofs.home.Given as goal

abbrev pub invariant-loop-k : goal.invariant-loop-k
invariant-loop-k l = Scanned l.keys l.n l.p.0 l.first l.least l.k
