-- `relay_edit::edit_add` meets its contract: the first refusal that applies, and past them the relay put in at its place. Assumes nothing.
use native.Mathlib.Omega.{arith}
use Rattle.std.proofs.lemmas.Result.{err_from_is_err_and}
use Rattle.relay_edit.proofs.OwnTable.{stands_few, stands_short}
use Rattle.relay_edit.proofs.Edits.{add_about, found_refused, add_refused, add_fits, add_asks, add_passed}
use Rattle.relay_edit.proofs.edit_add.Goals as goal

pub returns-in_err-f : goal.returns-in_err-f
returns-in_err-f c =
    let p = err_from_is_err_and c.from_residual.result c.from_residual.ensures.1 in
    rw (p.1, p.2) (found_refused _ _ _ c.in_err-f.ensures (add_about c.args.r c.args.limit))

pub returns-in_err-add_refusal : goal.returns-in_err-add_refusal
returns-in_err-add_refusal c =
    let r = c.from_residual-in_err-add_refusal in
    let p = err_from_is_err_and r.result r.ensures.1 in
    rw (p.1, p.2)
    (add_refused c.args.r c.in_ok-f.ensures c.args.limit c.places.ensures _ c.in_err-add_refusal.ensures)

pub copied-own-requires : goal.copied-own-requires
copied-own-requires c = stands_short c.in_ok-f.ensures

pub insert-requires : goal.insert-requires
insert-requires c =
    add_fits c.args.r c.in_ok-f.ensures c.args.limit c.places.ensures c.in_ok-add_refusal.ensures.0 c.copied-own.ensures

pub put_in-around-requires : goal.put_in-around-requires
put_in-around-requires c =
    add_asks c.args.r c.in_ok-f.ensures c.args.limit c.places.ensures c.in_ok-add_refusal.ensures.0 c.copied-own.ensures

pub overflow_add-result : goal.overflow_add-result
overflow_add-result c = omega (arith, stands_few c.in_ok-f.ensures)

pub returns : goal.returns
returns c =
    add_passed c.args.r c.in_ok-f.ensures c.args.limit c.places.ensures c.in_ok-add_refusal.ensures.0 c.copied-own.ensures
    c.in_ok-add_refusal.ensures.1 c.insert.ensures c.relay_at-q.ensures (omega (arith, c.relay_at-q.type_inv)) c.put_in-around.ensures
