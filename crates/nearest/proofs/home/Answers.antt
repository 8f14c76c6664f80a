-- `nearest::home` meets its contract. The invariant: of the first k slots p comes to `first` first, and `least` is how far that is. Assumes nothing.
use Rattle.nearest.proofs.Nearer.{scanned_one, scanned_closer, scanned_stays, scanned_end}
use Rattle.nearest.proofs.home.Goals as goal
use Rattle.nearest.proofs.home.Goals.{then-d-least, else-d-least}

pub loop-k-init : goal.loop-k-init
loop-k-init c = scanned_one _ c.away-least.ensures

pub loop-k-preserved : goal.loop-k-preserved
loop-k-preserved c =
    let few = c.requires in
    let scanned = c.loop-k.invariant in
    let on = c.loop-k-test.true in
    let far = c.away-d.ensures in
    elim c.if-d-least.branch [
      | then-d-least w ↦ rw (w.first-is, w.least-is) (scanned_closer few scanned on _ far w.if-d-least.true)
      | else-d-least w ↦ rw (w.first-is, w.least-is) (scanned_stays few scanned on _ far w.if-d-least.false)
    ]

pub returns : goal.returns
returns c = scanned_end c.loop-k-test.false c.loop-k.invariant
