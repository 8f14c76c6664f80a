-- `calls::add` meets its contract: the call, and its count. Assumes nothing.
use Rattle.calls.proofs.Kept.{keeps}
use Rattle.calls.proofs.add.Goals as goal

pub returns : goal.returns
returns c =
    keeps _ _ _ _ _ _ c.add-reply.ensures c.count.ensures
