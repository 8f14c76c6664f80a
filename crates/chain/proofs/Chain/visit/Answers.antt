-- `chain::Chain::visit` meets its contract: only a tablet that is there gives way.
-- Assumes nothing.
use mathlib.Core.Path.{sym, ◌∙◌}
use Rattle.chain.proofs.Arrays.{way_some}
use Rattle.chain.proofs.Chain.visit.Goals as goal

pub overflow_sub-self : goal.overflow_sub-self
overflow_sub-self c = way_some _ _ _ (sym c.gives_way.ensures ∙ c.if-gives_way.true)
