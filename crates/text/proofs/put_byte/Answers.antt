-- `text::put_byte` meets its contract. Assumes nothing.
use Rattle.text.proofs.Puts.{puts_none}
use Rattle.text.proofs.put_byte.Goals as goal

pub returns : goal.returns
returns c = puts_none _ _ _ c.if-at-out.false
