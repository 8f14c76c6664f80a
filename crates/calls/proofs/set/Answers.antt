-- `calls::set` meets its contract: the call, and its count. Assumes nothing.
use Rattle.calls.proofs.Kept.{keeps}
use Rattle.calls.proofs.set.Goals as goal

pub returns : goal.returns
returns c =
    keeps _ _ _ _ _ _ c.set-reply.ensures c.count.ensures
