-- `holes::next_passed` meets its contract. The loop's invariant (`Seeking`): nobody behind place i and before place j had passed the hole.
-- Assumes nothing.
use Rattle.std.proofs.Common.{sym, ◌∙◌}
use Rattle.holes.specs.Holes.{passed_at}
use Rattle.holes.proofs.Sweeps.{seek_on, seek_found}
use Rattle.holes.proofs.next_passed.Goals as goal

pub loop-j-preserved : goal.loop-j-preserved
unfolding passed_at
loop-j-preserved c =
    seek_on _ _ c.loop-j.invariant c.loop-j-test.true (sym c.had_passed.ensures ∙ c.if-had_passed.false)

pub returns-then-had_passed : goal.returns-then-had_passed
unfolding passed_at
returns-then-had_passed c = seek_found _ _ c.loop-j.invariant (sym c.had_passed.ensures ∙ c.if-had_passed.true)
