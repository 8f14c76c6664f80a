-- `stage::first_line` meets its contract, for a line that names a scheme and for one that names none. Assumes nothing.
use mathlib.Core.Path.{sym}
use Rattle.stage.specs.Stage.{first}
use Rattle.stage.proofs.Says.{says_text}
use Rattle.stage.proofs.first_line.Goals as goal

pub returns-in-Some : goal.returns-in-Some
unfolding first
returns-in-Some c =
    rw (sym c.in-Some.ensures)
    (says_text c.echo-due.ensures)

pub returns-in-None : goal.returns-in-None
unfolding first
returns-in-None c =
    rw (sym c.in-None.ensures)
    c.other_line.ensures
