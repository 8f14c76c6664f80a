-- `lookup::found` meets its contract: a number that was found is not zero. Where it was not found, search shows the refusal by `absent_refused`.
-- Assumes nothing.
use mathlib.Core.Path.{ap, ◌∙◌}
use native.Mathlib.Omega.{arith}
use Prim.Native.Nat.{◌<◌}
use Rattle.tables.specs.Table.{beside_in}
use Rattle.lookup.specs.Spot.{missing}
use Rattle.lookup.proofs.There.{spot_here, missing_done}
use Rattle.lookup.proofs.found.Goals as goal

pub returns-in-Ok : goal.returns-in-Ok
returns-in-Ok c =
    let s = c.in-Ok.ensures in
    let a = c.requires.1 in
    let here = spot_here (beside_in c.args.table.now) a s.spot s.there in
    let some : 0 < c.args.x = omega (arith, here.1, a.numbered _ here.0) in
    (ap (missing c.args.x) s.there ∙ missing_done c.args.x some, s)
