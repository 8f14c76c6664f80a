-- `stretch::stretch` meets its contract: the part is what its bounds say. Assumes nothing.
use Rattle.stretch.proofs.stretch.Goals as goal

pub returns : goal.returns
returns c = record { place = cc; content = cc }
