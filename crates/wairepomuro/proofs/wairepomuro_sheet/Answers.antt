-- `wairepomuro::wairepomuro_sheet` meets its contract: the promise of the sheet, its refusal as a number. Assumes nothing.
use Rattle.wairepomuro.proofs.Served.{serves_sheet}
use Rattle.wairepomuro.proofs.wairepomuro_sheet.Goals as goal

pub returns : goal.returns
returns c = serves_sheet _ _ _ _ c.sheet-made.ensures c.from.ensures
