-- `relay_edit::copied` meets its contract: the table's numbers, and zeros behind them. Assumes nothing.
use Rattle.relay_edit.proofs.Copies.{copied_from}
use Rattle.relay_edit.proofs.copied.Goals as goal

pub returns : goal.returns
returns c = copied_from _ c.copy_from_slice.ensures.after c.requires
