-- `row::redirect` meets its contract. The invariant: the first slots are led on, the others as they were. Assumes nothing.
use Rattle.std.proofs.Common.{refl, arith, eq-eqb, ne_eqb}
use Rattle.row.proofs.Shut.{redirected_none, redirected_more, redirected_end}
use Rattle.row.proofs.redirect.Goals as goal
use Rattle.row.proofs.redirect.Goals.{then-x-k, else-x-k}

pub loop-x-init : goal.loop-x-init
loop-x-init c = redirected_none _ _ _

pub loop-x-preserved : goal.loop-x-preserved
loop-x-preserved c =
    let r = c.loop-x.invariant in
    elim c.if-x-k.branch [
      | then-x-k w ↦ rw w.next-is (redirected_more _ r (omega (arith, r.size)) (rw (eq-eqb _ _ w.if-x-k.true) refl))
      | else-x-k w ↦ rw w.next-is (redirected_more _ r (omega (arith, r.size)) (rw (ne_eqb _ _ w.if-x-k.false) refl))
    ]

pub returns : goal.returns
returns c = redirected_end c.loop-x.auto.x-index-end c.loop-x-test.false c.loop-x.invariant
