-- `stage::other_line` meets its contract: `?` is echoed. Assumes nothing.
use Rattle.stage.specs.Stage.{other}
use Rattle.stage.proofs.Says.{says_text}
use Rattle.stage.proofs.other_line.Goals as goal

pub returns : goal.returns
unfolding other
returns c = says_text c.echo-due.ensures
