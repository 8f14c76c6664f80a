-- `balance::balance` meets its contract: refused, or with the limit of numbers that are within range. Assumes nothing.
use Rattle.std.proofs.lemmas.Result.{err_from_is_err_and}
use Rattle.rule.specs.Refusals.{is_done}
use Rattle.rule.specs.Balance.{balance}
use Rattle.balance.proofs.Ranges.{in_range, balances_refused}
use Rattle.balance.proofs.balance.Goals as goal

pub limit_for-requires : goal.limit_for-requires
unfolding is_done
limit_for-requires c = in_range _ _ _ _ (rw c.in_ok-check.ensures)

pub returns-in_err-check-clause-limit : goal.returns-in_err-check-clause-limit
returns-in_err-check-clause-limit c =
    let p = err_from_is_err_and c.from_residual.result c.from_residual.ensures.1 in
    rw (p.1, p.2) (balances_refused _ _ _ _ c.in_err-check.ensures)

pub returns-clause-limit : goal.returns-clause-limit
unfolding balance is_done
returns-clause-limit c = record { reply = rw c.in_ok-check.ensures; limit = rw (c.in_ok-check.ensures) c.limit_for.ensures }
