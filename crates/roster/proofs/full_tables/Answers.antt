-- `roster::full_tables` meets its contract: what the look refuses are no full tables. Assumes nothing.
use Rattle.roster.proofs.Contents.{full_refused}
use Rattle.roster.proofs.full_tables.Goals as goal

pub returns-in-Err : goal.returns-in-Err
returns-in-Err c = full_refused _ _ _ c.requires (rw c.in-Err.is at c.look_into.ensures)
