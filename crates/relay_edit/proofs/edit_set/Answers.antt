-- `relay_edit::edit_set` meets its contract: the first refusal that applies, and past them the relay given its limit. Assumes nothing.
use Rattle.std.proofs.lemmas.Result.{err_from_is_err_and}
use Rattle.relay_edit.proofs.OwnTable.{stands_short}
use Rattle.relay_edit.proofs.Edits.{set_about, found_refused, set_refused, set_fits, set_passed}
use Rattle.relay_edit.proofs.edit_set.Goals as goal

pub returns-in_err-f : goal.returns-in_err-f
returns-in_err-f c =
    let p = err_from_is_err_and c.from_residual.result c.from_residual.ensures.1 in
    rw (p.1, p.2) (found_refused _ _ _ c.in_err-f.ensures (set_about c.args.r c.args.limit))

pub returns-in_err-set_refusal : goal.returns-in_err-set_refusal
returns-in_err-set_refusal c =
    let r = c.from_residual-in_err-set_refusal in
    let p = err_from_is_err_and r.result r.ensures.1 in
    rw (p.1, p.2) (set_refused c.args.r c.in_ok-f.ensures c.args.limit _ c.in_err-set_refusal.ensures)

pub copied-own-requires : goal.copied-own-requires
copied-own-requires c = stands_short c.in_ok-f.ensures

pub change-requires : goal.change-requires
change-requires c =
    set_fits c.args.r c.in_ok-f.ensures c.args.limit c.in_ok-set_refusal.ensures c.copied-own.ensures

pub returns : goal.returns
returns c =
    set_passed c.args.r c.in_ok-f.ensures c.args.limit c.in_ok-set_refusal.ensures c.copied-own.ensures
    c.change.ensures
