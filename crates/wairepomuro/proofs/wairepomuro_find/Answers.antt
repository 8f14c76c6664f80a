-- `wairepomuro::wairepomuro_find` meets its contract: the promise of the call, handed out. Assumes nothing.
use Rattle.wairepomuro.proofs.Served.{serves_call}
use Rattle.wairepomuro.proofs.wairepomuro_find.Goals as goal

pub returns : goal.returns
returns c =
    λ moves. serves_call _ _ _ _ _ _ (c.find-made.ensures moves) c.hand_out.ensures
