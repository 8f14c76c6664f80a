-- `newcomer::free_place` meets its contract: each test in its turn.
-- Assumes nothing.
use mathlib.Core.Path.{refl}
use native.Mathlib.Omega.{arith}
use borrow.Author.Tests.{eq-eqb, ne_eqb, le-leb, lt-leb}
use Rattle.rule.specs.Refusals.{first_bar, is_done}
use Rattle.tables.specs.Table.{tablet_places}
use Rattle.newcomer.specs.Newcomer.{newcomer_refusal}
use Rattle.newcomer.proofs.free_place.Goals as goal

pub returns-then-t-eq0 : goal.returns-then-t-eq0
unfolding newcomer_refusal first_bar is_done
returns-then-t-eq0 c = (rw (eq-eqb _ _ c.if-t-eq0.true), refl)

pub returns-in_default : goal.returns-in_default
unfolding newcomer_refusal first_bar is_done
returns-in_default c = (rw (ne_eqb _ _ c.if-t-eq0.false, c.in_default.ensures.there), refl)

pub returns-then-places-m : goal.returns-then-places-m
unfolding newcomer_refusal first_bar is_done
returns-then-places-m c = (
  rw (
    ne_eqb _ _ c.if-t-eq0.false,
    c.in-Err.ensures.there,
    le-leb (tablet_places c.args.tablets.now) c.args.m (omega (arith, c.places.ensures, c.if-places-m.true)),
  ),
  refl,
)

pub returns : goal.returns
unfolding newcomer_refusal first_bar
returns c = (
  rw (
    ne_eqb _ _ c.if-t-eq0.false,
    c.in-Err.ensures.there,
    lt-leb (tablet_places c.args.tablets.now) c.args.m (omega (arith, c.places.ensures, c.if-places-m.false)),
  ),
  c.in-Err.ensures,
)
