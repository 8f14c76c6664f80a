-- `plan::work_out` meets its contract: each way out is one of the refusals 8 and 9, or the relays. Assumes nothing.
use native.Mathlib.Omega.{arith}
use Rattle.plan.proofs.Plans.{limits_planned, list_planned, planned}
use Rattle.plan.proofs.work_out.Goals as goal

pub returns-then-limit_sum-m : goal.returns-then-limit_sum-m
returns-then-limit_sum-m c =
    λ p o. limits_planned _ _ _ _ _ _ (omega (arith, c.limit_sum.ensures, c.if-limit_sum-m.true))

pub moves_fit-requires : goal.moves_fit-requires
moves_fit-requires c = record {
  tablets = c.requires.tablets;
  relays = λ j h. omega (
    arith,
    (c.refill-relay.ensures c.requires.positions c.args.tablets.now c.requires.homes).below j h,
    c.requires.limited.relays.there,
  );
}

pub returns-then-not-moves_fit : goal.returns-then-not-moves_fit
returns-then-not-moves_fit c =
    λ p o. list_planned _ _ _ _ _ _ (omega (arith, c.limit_sum.ensures, c.if-limit_sum-m.false))
    (c.refill-relay.ensures p _ o) c.moves_fit.ensures c.if-not-moves_fit.true

pub returns : goal.returns
returns c =
    λ p o. planned _ _ _ _ _ _ (omega (arith, c.limit_sum.ensures, c.if-limit_sum-m.false))
    (c.refill-relay.ensures p _ o) c.moves_fit.ensures c.if-not-moves_fit.false
