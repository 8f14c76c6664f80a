-- `lookup::missing` meets its contract: of the two refusals the first that applies. Assumes nothing.
use mathlib.Core.Path.{sym}
use borrow.Author.Tests.{eq-eqb, ne_eqb}
use Rattle.rule.specs.Refusals.{first_bar}
use Rattle.lookup.specs.Spot.{missing}
use Rattle.lookup.proofs.missing.Goals as goal

pub returns-then-number-eq0 : goal.returns-then-number-eq0
unfolding missing first_bar
returns-then-number-eq0 c = sym (rw (eq-eqb _ _ c.if-number-eq0.true))

pub returns-else-number-eq0 : goal.returns-else-number-eq0
unfolding missing first_bar
returns-else-number-eq0 c = sym (rw (ne_eqb _ _ c.if-number-eq0.false))
