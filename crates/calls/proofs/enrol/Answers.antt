-- `calls::enrol` meets its contract: the call, and its count. Assumes nothing.
use Rattle.calls.proofs.Kept.{keeps}
use Rattle.calls.proofs.enrol.Goals as goal

pub returns : goal.returns
returns c =
    keeps _ _ _ _ _ _ c.enrol-reply.ensures c.count.ensures
