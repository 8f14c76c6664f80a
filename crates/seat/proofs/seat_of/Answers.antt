-- `seat::seat_of` meets its contract: a tablet that is not refused for its number stands at the place that a search found. Assumes nothing.
use mathlib.Core.Path.{◌≡◌, refl, ap}
use native.Mathlib.Omega.{arith}
use Prim.Native.Nat.{◌<◌}
use Rattle.std.proofs.lemmas.Result.{err_from_is_err_and}
use Rattle.rule.specs.Refusals.{is_done}
use Rattle.tables.specs.Table.{tablet_number, tablet_relay}
use Rattle.slots.proofs.Steps.{steps_inside}
use Rattle.lookup.proofs.There.{spot_is}
use Rattle.seat.proofs.seat_of.Goals as goal
use Rattle.seat.proofs.seat_of.Goals.{In_ok-at}

-- it is at its place
here : (c : In_ok-at) → (c.in_ok-at.at < c.args.survey.now.m)
    × (tablet_number c.args.tablets.now c.in_ok-at.at ≡ c.args.t.0)
unfolding is_done
here c =
    spot_is (tablet_relay c.args.tablets.now) c.requires.numbers c.in_ok-at.ensures.1.spot refl refl
    (ap is_done c.in_ok-at.ensures.0)

pub found-requires : goal.found-requires
found-requires c = (c.requires.tablets_fit.there, c.requires.numbers)

pub returns-in_err-at : goal.returns-in_err-at
returns-in_err-at c =
    let p = err_from_is_err_and c.from_residual.result c.from_residual.ensures.1 in
    rw (p.1, p.2) c.in_err-at.ensures

pub bounds-survey-at : goal.bounds-survey-at
bounds-survey-at c = omega (arith, here (goal.at.bounds-survey-at c).In_ok-at, c.requires.tablets_fit.few)

pub bounds-survey-at-2 : goal.bounds-survey-at-2
bounds-survey-at-2 c = omega (arith, here (goal.at.bounds-survey-at-2 c).In_ok-at, c.requires.tablets_fit.few)

pub steps_to-passed-requires : goal.steps_to-passed-requires
steps_to-passed-requires c =
    (c.requires.relays_few, c.requires.homes _ (here (goal.at.steps_to-passed-requires c).In_ok-at).0)

pub tablet_relay-requires : goal.tablet_relay-requires
tablet_relay-requires c = omega (arith, here (goal.at.tablet_relay-requires c).In_ok-at, c.requires.tablets_fit.there)

pub overflow_cast-result : goal.overflow_cast-result
overflow_cast-result c =
    let p = here (goal.at.overflow_cast-result c).In_ok-at in
    omega (
      arith,
      c.steps_to-passed.ensures,
      steps_inside _ _ (c.requires.homes _ p.0) _
          (c.requires.slots _ p.0),
      c.requires.relays_few,
    )

pub returns : goal.returns
returns c =
    let p = here (goal.at.returns c).In_ok-at in (
      c.in_ok-at.ensures.0,
      record { below = p.0; number = p.1; relay = c.tablet_relay.ensures; passed = c.steps_to-passed.ensures },
    )
