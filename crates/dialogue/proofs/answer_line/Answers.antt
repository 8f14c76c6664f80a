-- `dialogue::answer_line` meets its contract, stage by stage. Assumes nothing.
use native.Mathlib.Omega.{arith}
use Rattle.text.proofs.Puts.{puts_nothing}
use Rattle.dialogue.specs.Lines.{answered}
use Rattle.stage.proofs.Says.{says_text}
use Rattle.dialogue.proofs.Answers.{shows_said}
use Rattle.dialogue.proofs.answer_line.Goals as goal

pub returns-in-First : goal.returns-in-First
unfolding answered
returns-in-First c =
    rw c.in-First.is (shows_said c.first_line.ensures)

pub returns-in-Under : goal.returns-in-Under
unfolding answered
returns-in-Under c =
    rw c.in-Under.is c.next_line.ensures

pub returns-in-Over : goal.returns-in-Over
unfolding answered
returns-in-Over c = rw c.in-Over.is (shows_said (says_text (puts_nothing _ (omega arith))))
