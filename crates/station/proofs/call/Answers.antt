-- `station::call` meets its contract: what the call did on the tables is handed out as records, and counted. Assumes nothing.
use Rattle.station.proofs.Attends.{attends}
use Rattle.station.proofs.call.Goals as goal

pub returns : goal.returns
returns c =
    let a = c.args in
    attends a.scheme a.relays.now a.tablets.now a.list.now a.t.now a.c c.work_on-r.ensures
    (rw c.made.ensures at c.hand_out.ensures) c.count_into.ensures
