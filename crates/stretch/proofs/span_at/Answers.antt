-- `stretch::span_at` meets its contract: from the relay's start to the next one's. Assumes nothing.
use native.Mathlib.Omega.{arith}
use Rattle.loads.proofs.StartsOfStretches.{start_more, roomed_fewer}
use Rattle.stretch.proofs.span_at.Goals as goal

pub tablets_before-from-requires : goal.tablets_before-from-requires
tablets_before-from-requires c = roomed_fewer c.requires _ (omega arith)

pub load_at-load-requires : goal.load_at-load-requires
load_at-load-requires c = (
  omega (arith, c.requires.relays_fit.there),
  omega (arith, c.requires.relays_fit.few),
  c.requires.within _ (omega arith),
)

pub returns : goal.returns
returns c = (
  c.tablets_before-from.ensures.0,
  start_more _ _ _ c.tablets_before-from.ensures.0
      c.load_at-load.ensures.0,
)
