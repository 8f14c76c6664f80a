-- `plan::moves_fit` meets its contract: no more tablets move than there are, and else they are counted. Assumes nothing.
use Rattle.plan.proofs.Changes.{count_fits}
use Rattle.plan.proofs.moves_fit.Goals as goal

pub returns-then-enough : goal.returns-then-enough
returns-then-enough c = count_fits _ _ _ _ _ c.if-enough.true
