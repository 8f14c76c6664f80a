-- `calls::find` meets its contract: the call, and its count. Assumes nothing.
use Rattle.calls.proofs.Kept.{keeps}
use Rattle.calls.proofs.find.Goals as goal

pub returns : goal.returns
returns c =
    λ moves. keeps _ _ _ _ _ _ (c.find-reply.ensures moves)
    c.count.ensures
