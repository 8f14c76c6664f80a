-- `roster::read` meets its contract: refused before the content, refused by the content, or taken over. Assumes nothing.
use mathlib.Core.Path.{sym}
use Rattle.std.proofs.lemmas.Result.{err_from_is_err_and}
use Rattle.rule.specs.Refusals.{is_done}
use Rattle.roster.proofs.Fronts.{scratch_size}
use Rattle.roster.proofs.Outcomes.{refused_answers, open_few, open_room, over_wrong, over_right}
use Rattle.roster.proofs.read.Goals as goal

pub returns-in_err-t-clause-answers : goal.returns-in_err-t-clause-answers
returns-in_err-t-clause-answers c =
    let p = err_from_is_err_and c.from_residual.result c.from_residual.ensures.1 in
    rw (p.1, p.2) (refused_answers _ _ _ c.in_err-t.ensures)

pub slice_bounds-take_over-end : goal.slice_bounds-take_over-end
slice_bounds-take_over-end c = sym (scratch_size 512 0 _ (open_few c.in_ok-t.ensures).0)

pub slice_bounds-take_over-end-2 : goal.slice_bounds-take_over-end-2
slice_bounds-take_over-end-2 c = sym (scratch_size 8192 0 _ (open_few c.in_ok-t.ensures).1)

pub take_over-requires : goal.take_over-requires
take_over-requires c = (c.in_ok-t.ensures.known, open_room c.in_ok-t.ensures (scratch_size 512 0 _ (open_few c.in_ok-t.ensures).0) (scratch_size 8192 0 _ (open_few c.in_ok-t.ensures).1))

pub returns-in_err-take_over-clause-answers : goal.returns-in_err-take_over-clause-answers
returns-in_err-take_over-clause-answers c =
    let p = err_from_is_err_and c.from_residual-in_err-take_over.result c.from_residual-in_err-take_over.ensures.1 in
    rw (p.1, p.2) (over_wrong c.in_ok-t.ensures c.in_err-take_over.ensures)

pub returns-in_err-take_over-clause-refused : goal.returns-in_err-take_over-clause-refused
unfolding is_done
returns-in_err-take_over-clause-refused c =
    let p = err_from_is_err_and c.from_residual-in_err-take_over.result c.from_residual-in_err-take_over.ensures.1 in
    rw (p.1, p.2, c.in_err-take_over.ensures.0)

pub returns-clause-answers : goal.returns-clause-answers
returns-clause-answers c = over_right c.in_ok-t.ensures c.in_ok-take_over.ensures
