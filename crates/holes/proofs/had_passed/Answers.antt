-- `holes::had_passed` meets its contract: a wrapping difference of bytes is the difference modulo 256. Assumes nothing.
use Rattle.std.proofs.Common.{refl}
use Rattle.holes.specs.Holes.{around}
use Rattle.holes.proofs.had_passed.Goals as goal

pub returns : goal.returns
unfolding around
returns c = refl
