-- `relay_edit::refused::remove_refusal` meets its contract: each way out is the first refusal that applies. Assumes nothing.
use mathlib.Core.Path.{refl}
use borrow.Author.Tests.{eq-eqb, ne_eqb}
use Rattle.rule.specs.Refusals.{is_done, first_bar}
use Rattle.lookup.specs.Spot.{missing}
use Rattle.relay_edit.proofs.refused.remove_refusal.Goals as goal

pub returns-then-r-eq0 : goal.returns-then-r-eq0
unfolding missing first_bar is_done
returns-then-r-eq0 c = (rw (eq-eqb _ _ c.if-r-eq0.true), refl)

pub returns-then-not-there : goal.returns-then-not-there
unfolding missing first_bar is_done
returns-then-not-there c = (rw (ne_eqb _ _ c.if-r-eq0.false, c.if-not-there.true), refl)

pub returns : goal.returns
unfolding missing first_bar
returns c = rw (ne_eqb _ _ c.if-r-eq0.false, c.if-not-there.false)
