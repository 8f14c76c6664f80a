-- `newcomer::seek` meets its contract: the home is what the newcomer comes to first, and the row leads on from there.
-- Assumes nothing.
use native.Mathlib.Omega.{arith}
use Rattle.newcomer.proofs.Outcomes.{seeks, shut}
use Rattle.newcomer.proofs.seek.Goals as goal
use Rattle.newcomer.proofs.seek.Goals.{else-survey-gt0-via-then-survey-gt0+else-survey-i-gt0, else-survey-gt0-via-else-survey-gt0}

pub returns-then-survey-i-gt0 : goal.returns-then-survey-i-gt0
returns-then-survey-i-gt0 c =
    seeks _ _ c.requires.0 c.requires.1 c.home-home.ensures c.led_to-stop.ensures.0 c.slot_relay-i.ensures.0
    c.tablet_at-p.ensures (omega arith) c.if-survey-gt0.true c.if-survey-i-gt0.true

pub returns-else-survey-gt0 : goal.returns-else-survey-gt0
returns-else-survey-gt0 c =
    shut c.args.scheme c.args.survey.now c.requires.0 c.requires.1 c.home-home.ensures c.led_to-stop.ensures.0 c.slot_relay-i.ensures.0
    (λ some_relay.
    elim c.else-survey-gt0.branch [
      | else-survey-gt0-via-then-survey-gt0+else-survey-i-gt0 w ↦ w.if-survey-i-gt0.false
      | else-survey-gt0-via-else-survey-gt0 w ↦ omega (arith, some_relay, w.if-survey-gt0.false)
    ])
