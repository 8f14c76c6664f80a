-- `records::work_on` meets its contract: the call's promise for the part of the numbers that it is lent, by `works`. Assumes nothing.
use mathlib.Core.Path.{refl}
use Rattle.calls.proofs.Kept.{kept_answers}
use Rattle.records.proofs.Works.{scratch_length, works}
use Rattle.records.proofs.work_on.Goals as goal

pub returns : goal.returns
returns c =
    works _ _ _ _ _ _ _ (kept_answers _ _ _ _ _ _ c.call.ensures)
    (scratch_length c.args.numbers.now c.min-places.result c.args.room c.requires
    c.min-places.ensures)
    refl
