-- The invariant of `station::hand_out`: the first i records are handed out. Assumes nothing.
use Rattle.std.proofs.Common.{◌≡◌}
use Rattle.station.specs.Handed.{handed}
use Rattle.station.proofs.hand_out.Given as goal

abbrev pub invariant-loop-i : goal.invariant-loop-i
invariant-loop-i l = l.list ≡ handed l.initial.list l.numbers l.i
