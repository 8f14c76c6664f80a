-- `relay_edit::refused::numbers_refusal` meets its contract: each way out is the first refusal that applies. Assumes nothing.
use mathlib.Core.Path.{refl, sym, ◌∙◌}
use native.Mathlib.Omega.{arith}
use borrow.Author.Tests.{eq-eqb, ne_eqb}
use Rattle.rule.specs.Refusals.{is_done, first_bar}
use Rattle.relay_edit.specs.Refused.{numbers_refusal}
use Rattle.relay_edit.proofs.refused.numbers_refusal.Goals as goal

pub returns-then-r-eq0 : goal.returns-then-r-eq0
unfolding numbers_refusal first_bar is_done
returns-then-r-eq0 c = (rw (eq-eqb _ _ c.if-r-eq0.true), refl)

pub returns-then-too_large : goal.returns-then-too_large
unfolding numbers_refusal first_bar is_done
returns-then-too_large c = (
  rw (ne_eqb _ _ c.if-r-eq0.false, sym c.too_large.ensures ∙ c.if-too_large.true),
  refl,
)

pub returns : goal.returns
unfolding numbers_refusal first_bar
returns c = (rw (ne_eqb _ _ c.if-r-eq0.false, sym c.too_large.ensures ∙ c.if-too_large.false), omega arith)
