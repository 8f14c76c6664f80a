-- `withdraw::withdrawn` meets its contract. A look that is refused refuses the withdrawal, and so do a number that is zero or not there and a
-- move list that is too short; past these those who fill the holes have sat down, and the tablet is taken out. Assumes nothing.
use mathlib.Core.Path.{refl}
use Rattle.std.proofs.lemmas.Result.{err_from_is_err_and}
use Rattle.call_start.proofs.Ways.{look_answers}
use Rattle.seat.proofs.Slotted.{start_slotted}
use Rattle.seat.proofs.Replies.{missing_withdraw, seat_refused}
use Rattle.withdraw.proofs.Known.{start_sweeps}
use Rattle.withdraw.proofs.Outcomes.{withdraw_short, withdraw_fillers, withdraw_done}
use Rattle.withdraw.proofs.withdrawn.Goals as goal

pub returns-in_err-look_into : goal.returns-in_err-look_into
returns-in_err-look_into c =
    let p = err_from_is_err_and c.from_residual.result c.from_residual.ensures.1 in
    rw (p.1, p.2) (look_answers _ _ _ c.in_err-look_into.ensures _ _ refl, c.in_err-look_into.ensures.1)

pub seat_of-requires : goal.seat_of-requires
seat_of-requires c = start_slotted c.in_ok-look_into.ensures.1

pub returns-in_err-seat : goal.returns-in_err-seat
returns-in_err-seat c =
    let b = c.in_ok-look_into.ensures.1 in
    let p = err_from_is_err_and c.from_residual-in_err-seat.result c.from_residual-in_err-seat.ensures.1 in
    rw (p.1, p.2) (seat_refused b _ c.in_err-seat.ensures _ (missing_withdraw b _) _, c.in_err-seat.ensures.1)

pub holes-chain-requires : goal.holes-chain-requires
holes-chain-requires c = (start_sweeps c.in_ok-look_into.ensures.1, c.in_ok-seat.ensures.1.below)

pub returns-then-moves-movers : goal.returns-then-moves-movers
returns-then-moves-movers c =
    withdraw_short c.in_ok-look_into.ensures.1 _ c.in_ok-seat.ensures.0 c.in_ok-seat.ensures.1 c.holes-chain.ensures _
    c.if-moves-movers.true

pub fill-requires : goal.fill-requires
fill-requires c = (
  withdraw_fillers c.in_ok-look_into.ensures.1 _ c.in_ok-seat.ensures.0 c.in_ok-seat.ensures.1 c.holes-chain.ensures _
      c.if-moves-movers.false,
  c.in_ok-seat.ensures.1.below,
  c.holes-chain.ensures.climbs,
)

pub returns : goal.returns
returns c =
    withdraw_done c.in_ok-look_into.ensures.1 _ c.in_ok-seat.ensures.0 c.in_ok-seat.ensures.1 c.holes-chain.ensures _
    c.if-moves-movers.false c.fill.ensures
