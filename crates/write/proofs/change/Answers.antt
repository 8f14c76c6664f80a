-- `write::change` meets its contract: the numbers rise, so what stands beside it is changed of the one entry with that number. Assumes nothing.
use Rattle.write.proofs.Shifts.{changed_put}
use Rattle.write.proofs.Written.{beside_changed, wrote_entries}
use Rattle.write.proofs.change.Goals as goal

pub returns : goal.returns
returns c =
    let s = c.set_beside.ensures in
    let p = c.requires in
    (wrote_entries s.size (changed_put _ _ _ _ _ p.0 p.2 (beside_changed s)), s)
