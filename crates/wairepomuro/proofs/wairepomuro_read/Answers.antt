-- `wairepomuro::wairepomuro_read` meets its contract: the promise of the reading, its refusal as a number. Assumes nothing.
use Rattle.wairepomuro.proofs.Served.{serves_reading}
use Rattle.wairepomuro.proofs.wairepomuro_read.Goals as goal

pub returns : goal.returns
returns c =
    serves_reading _ _ _ c.read-made.result c.read-made.ensures.answers c.answer.ensures c.unwrap_or.ensures
