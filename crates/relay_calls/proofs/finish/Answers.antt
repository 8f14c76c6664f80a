-- `relay_calls::finish` meets its contract: the edit's refusal, the plan's refusal, or the plan carried out and the table put back. Assumes nothing.
use native.Mathlib.Omega.{arith}
use Rattle.std.proofs.lemmas.Result.{err_from_is_err_and}
use Rattle.relay_calls.proofs.Outcomes.{edit_refused, edit_passed, edit_plans, edit_short, plan_refused}
use Rattle.relay_calls.proofs.Outcomes.{plan_carries, plan_count, plan_answers}
use Rattle.relay_calls.proofs.finish.Goals as goal

pub returns-in_err-e : goal.returns-in_err-e
returns-in_err-e c =
    let p = err_from_is_err_and c.from_residual.result c.from_residual.ensures.1 in
    λ s k o. rw (p.1, p.2) (edit_refused _ o c.in_err-e.was)

pub work_out-requires : goal.work_out-requires
work_out-requires c = edit_plans (edit_passed c.requires.edits c.in_ok-e.was)

pub returns-in_err-relay : goal.returns-in_err-relay
returns-in_err-relay c =
    let r = c.from_residual-in_err-relay in
    let p = err_from_is_err_and r.result r.ensures.1 in
    λ s k o. rw (p.1, p.2) (plan_refused (edit_passed o c.in_ok-e.was) o.about _ c.in_err-relay.ensures)

pub carry_out-count-requires : goal.carry_out-count-requires
carry_out-count-requires c =
    let o = c.requires.edits in
    plan_carries (edit_passed o c.in_ok-e.was) o.about _ c.in_ok-relay.ensures

pub put_back-requires : goal.put_back-requires
put_back-requires c = edit_short (edit_passed c.requires.edits c.in_ok-e.was)

pub overflow_cast-result : goal.overflow_cast-result
overflow_cast-result c =
    let o = c.requires.edits in
    omega (arith, plan_count (edit_passed o c.in_ok-e.was) o.about _ c.in_ok-relay.ensures c.carry_out-count.ensures)

pub returns : goal.returns
returns c =
    λ s k o. plan_answers (edit_passed o c.in_ok-e.was) o.about _ c.in_ok-relay.ensures c.carry_out-count.ensures
    c.put_back.ensures
