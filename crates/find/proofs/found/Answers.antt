-- `find::found` meets its contract. A look that is refused refuses the find, and so does a number that is zero or not there; past these the
-- reply is the tablet's seat. Assumes nothing.
use mathlib.Core.Path.{refl}
use Rattle.std.proofs.lemmas.Result.{err_from_is_err_and}
use Rattle.call_start.proofs.Ways.{look_answers}
use Rattle.seat.proofs.Slotted.{start_slotted}
use Rattle.seat.proofs.Replies.{missing_find, seat_refused}
use Rattle.find.proofs.Outcomes.{find_found}
use Rattle.find.proofs.found.Goals as goal

pub returns-in_err-look_into : goal.returns-in_err-look_into
returns-in_err-look_into c ms =
    let p = err_from_is_err_and c.from_residual.result c.from_residual.ensures.1 in
    rw (p.1, p.2) (look_answers _ _ _ c.in_err-look_into.ensures _ ms refl, c.in_err-look_into.ensures.1)

pub seat_of-requires : goal.seat_of-requires
seat_of-requires c = start_slotted c.in_ok-look_into.ensures.1

pub returns-in_err-seat : goal.returns-in_err-seat
returns-in_err-seat c ms =
    let b = c.in_ok-look_into.ensures.1 in
    let p = err_from_is_err_and c.from_residual-in_err-seat.result c.from_residual-in_err-seat.ensures.1 in
    rw (p.1, p.2) (seat_refused b _ c.in_err-seat.ensures _ (missing_find b _) ms, c.in_err-seat.ensures.1)

pub returns : goal.returns
returns c = find_found c.in_ok-look_into.ensures.1 _ c.in_ok-seat.ensures.0 c.in_ok-seat.ensures.1
