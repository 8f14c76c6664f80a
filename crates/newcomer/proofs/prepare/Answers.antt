-- `newcomer::prepare` meets its contract: each way out is a refusal, and past them all the newcomer and who gave way sit down.
-- Assumes nothing.
use native.Mathlib.Omega.{arith}
use Rattle.std.proofs.lemmas.Result.{err_from_is_err_and}
use Rattle.rule.specs.declared.Call.TheVariants.{Enrol}
use Rattle.call_start.proofs.Refusals.{start_rises, look_refused}
use Rattle.newcomer.proofs.Prepared.{barred, shut_out, too_short, worked, turn_from}
use Rattle.newcomer.proofs.prepare.Goals as goal

pub returns-in_err-look_into : goal.returns-in_err-look_into
returns-in_err-look_into c =
    let p = err_from_is_err_and c.from_residual.result c.from_residual.ensures.1 in
    λ ms e. rw (p.1, p.2) (
      look_refused _ _ _ ms (Enrol c.args.t) _ c.in_err-look_into.ensures.0 c.in_err-look_into.ensures.1,
      c.in_err-look_into.ensures.1,
    )

pub free_place-requires : goal.free_place-requires
free_place-requires c =
    let r = start_rises c.in_ok-look_into.ensures.1 in
    (r.tablets_fit.there, r.tablets)

pub returns-in_err-at : goal.returns-in_err-at
returns-in_err-at c =
    let p = err_from_is_err_and c.from_residual-in_err-at.result c.from_residual-in_err-at.ensures.1 in
    λ ms e. rw (p.1, p.2) (barred c.in_ok-look_into.ensures.1 c.args.t ms _ c.in_err-at.ensures)

pub seek-requires : goal.seek-requires
seek-requires c =
    let b = c.in_ok-look_into.ensures.1 in
    ((start_rises b).relays_fit.few, b.surveyed.row)

pub returns-in_default : goal.returns-in_default
returns-in_default c =
    λ ms e. shut_out c.in_ok-look_into.ensures.1 c.args.t c.in_ok-at.ensures.0 ms c.in_default.ensures

pub turn-chain-requires : goal.turn-chain-requires
turn-chain-requires c = (
  c.args.scheme,
  turn_from c.in_ok-look_into.ensures.1 c.args.t c.in_ok-at.ensures.0 c.in-Some.ensures,
)

pub returns-then-places-chain : goal.returns-then-places-chain
returns-then-places-chain c =
    λ ms e. too_short c.in_ok-look_into.ensures.1 c.args.t
    c.in_ok-at.ensures.0 c.in-Some.ensures c.turn-chain.ensures ms (omega (arith, e, c.if-places-chain.true))

pub returns : goal.returns
returns c =
    λ ms e. worked c.in_ok-look_into.ensures.1 c.args.t c.in_ok-at.ensures.0
    c.in-Some.ensures c.turn-chain.ensures c.in_ok-at.ensures.1 ms (omega (arith, e, c.if-places-chain.false))
