-- `enrol::enrolled` meets its contract: what is refused leaves all as it was, and what is prepared is written: those who gave way sit down,
-- then the newcomer.
-- Assumes nothing.
use mathlib.Core.Path.{refl}
use Rattle.std.proofs.lemmas.Result.{err_from_is_err_and}
use Rattle.call_start.proofs.Refusals.{refused_answers}
use Rattle.newcomer.specs.Newcomer.{Worked}
use Rattle.enrol.proofs.Written.{place_still, enrolled_answers}
use Rattle.enrol.proofs.enrolled.Goals as goal
use Rattle.enrol.proofs.enrolled.Goals.{In_ok-e}

-- the work that the preparation lays out
work : (c : In_ok-e) → let a = c.args in Worked a.scheme a.relays.now a.tablets.now a.moves.now a.t c.in_ok-e.e
work c = c.in_ok-e.ensures c.args.moves.now refl

pub returns-in_err-e : goal.returns-in_err-e
returns-in_err-e c =
    let p = err_from_is_err_and c.from_residual.result c.from_residual.ensures.1 in
    let w = c.in_err-e.ensures c.args.moves.now refl in
    rw (p.1, p.2) (refused_answers _ _ _ _ _ _ w.0 w.1 _ refl, w.1)

pub insert-requires : goal.insert-requires
insert-requires c =
    place_still (work (goal.at.insert-requires c).In_ok-e) (c.seat_others.ensures _)

pub returns : goal.returns
returns c =
    enrolled_answers (work (goal.at.returns c).In_ok-e) (c.seat_others.ensures _) _ _ c.from.ensures
    c.relay_number-relay.ensures c.insert.ensures
