-- `relay_edit::refused::add_refusal` meets its contract: each way out is the first refusal that applies. Assumes nothing.
use mathlib.Core.Path.{refl}
use Rattle.std.proofs.lemmas.Result.{err_from_is_err_and}
use Rattle.rule.specs.Refusals.{is_done, first_bar}
use Rattle.relay_edit.specs.Refused.{add_refusal}
use Rattle.relay_edit.proofs.Bars.{numbers_first, numbers_past}
use Rattle.relay_edit.proofs.refused.add_refusal.Goals as goal

pub returns-in_err-numbers_refusal : goal.returns-in_err-numbers_refusal
unfolding add_refusal
returns-in_err-numbers_refusal c =
    let p = err_from_is_err_and c.from_residual.result c.from_residual.ensures.1 in
    rw (p.1, p.2) (numbers_first _ _ _ c.in_err-numbers_refusal.ensures)

pub returns-then-there : goal.returns-then-there
unfolding add_refusal
returns-then-there c = (
  numbers_past _ _ _ c.in_ok-numbers_refusal.ensures.0 (unfold first_bar in (rw c.if-there.true)),
  unfold is_done in refl,
)

pub returns-then-full : goal.returns-then-full
unfolding add_refusal
returns-then-full c = (
  numbers_past _ _ _ c.in_ok-numbers_refusal.ensures.0 (unfold first_bar in (rw (c.if-there.false, c.if-full.true))),
  unfold is_done in refl,
)

pub returns : goal.returns
unfolding add_refusal
returns c = (
  numbers_past _ _ _ c.in_ok-numbers_refusal.ensures.0 (unfold first_bar in (rw (c.if-there.false, c.if-full.false))),
  c.in_ok-numbers_refusal.ensures.1,
)
