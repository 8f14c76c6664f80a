-- `entries::shapes` meets its contract: the two tests, in their order. Assumes nothing.
use Rattle.entries.proofs.Tested.{wrong_relays, wrong_tablets, both_right}
use Rattle.entries.proofs.shapes.Goals as goal

pub returns-in_err-n : goal.returns-in_err-n
returns-in_err-n c = rw c.from_residual.ensures (wrong_relays _ _ c.in_err-n.ensures)

pub returns-in_err-m : goal.returns-in_err-m
returns-in_err-m c = rw c.from_residual-in_err-m.ensures (wrong_tablets _ _ c.in_err-m.ensures)

pub returns : goal.returns
returns c = both_right c.in_ok-n.ensures c.in_ok-m.ensures
