-- `wairepomuro::wairepomuro_set` meets its contract: the promise of the call, handed out. Assumes nothing.
use Rattle.wairepomuro.proofs.Served.{serves_call}
use Rattle.wairepomuro.proofs.wairepomuro_set.Goals as goal

pub returns : goal.returns
returns c =
    serves_call _ _ _ _ _ _ c.set-made.ensures c.hand_out.ensures
