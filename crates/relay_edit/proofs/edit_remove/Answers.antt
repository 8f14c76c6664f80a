-- `relay_edit::edit_remove` meets its contract: the first refusal that applies, and past them the relay taken out. Assumes nothing.
use native.Mathlib.Omega.{arith}
use Rattle.std.proofs.lemmas.Result.{err_from_is_err_and}
use Rattle.relay_edit.proofs.OwnTable.{stands_short}
use Rattle.relay_edit.proofs.Homes.{take_asks}
use Rattle.relay_edit.proofs.Edits.{remove_about, found_refused, remove_refused, remove_fits, remove_passed}
use Rattle.relay_edit.proofs.edit_remove.Goals as goal

pub returns-in_err-f : goal.returns-in_err-f
returns-in_err-f c =
    let p = err_from_is_err_and c.from_residual.result c.from_residual.ensures.1 in
    rw (p.1, p.2) (found_refused _ _ _ c.in_err-f.ensures (remove_about c.args.r))

pub returns-in_err-remove_refusal : goal.returns-in_err-remove_refusal
returns-in_err-remove_refusal c =
    let r = c.from_residual-in_err-remove_refusal in
    let p = err_from_is_err_and r.result r.ensures.1 in
    rw (p.1, p.2) (remove_refused c.args.r c.in_ok-f.ensures _ c.in_err-remove_refusal.ensures)

pub copied-own-requires : goal.copied-own-requires
copied-own-requires c = stands_short c.in_ok-f.ensures

pub delete-requires : goal.delete-requires
delete-requires c =
    remove_fits c.args.r c.in_ok-f.ensures c.in_ok-remove_refusal.ensures c.copied-own.ensures

pub overflow_sub-n : goal.overflow_sub-n
overflow_sub-n c =
    let p =
    remove_fits c.args.r c.in_ok-f.ensures c.in_ok-remove_refusal.ensures c.copied-own.ensures in
    omega (arith, p.0)

pub take_out-requires : goal.take_out-requires
take_out-requires c =
    let s = c.in_ok-f.ensures in
    take_asks s (remove_fits c.args.r s c.in_ok-remove_refusal.ensures c.copied-own.ensures).0

pub returns : goal.returns
returns c =
    remove_passed c.args.r c.in_ok-f.ensures c.in_ok-remove_refusal.ensures c.copied-own.ensures
    c.delete.ensures c.take_out.ensures
