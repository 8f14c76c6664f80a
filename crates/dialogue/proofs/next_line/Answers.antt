-- `dialogue::next_line` meets its contract, for a line that is a call and for one that is none. Assumes nothing.
use mathlib.Core.Path.{sym}
use Rattle.dialogue.specs.Lines.{under}
use Rattle.dialogue.proofs.Answers.{shows_said, shows_call}
use Rattle.dialogue.proofs.next_line.Goals as goal

pub returns-in-Some : goal.returns-in-Some
unfolding under
returns-in-Some c =
    rw (sym c.in-Some.ensures)
    (shows_call _ _ _ _ _ _ c.call-reply.ensures c.answer-due.ensures)

pub returns-in-None : goal.returns-in-None
unfolding under
returns-in-None c =
    rw (sym c.in-None.ensures)
    (shows_said c.other_line.ensures)
