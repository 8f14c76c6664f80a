-- `plan::count_moves` meets its contract. The invariant: c of the first j tablets move. Assumes nothing.
use mathlib.Core.Path.{refl, sym, ◌∙◌}
use native.Mathlib.Omega.{arith}
use Rattle.plan.specs.Changes.{changes, changes_to}
use Rattle.plan.proofs.Changes.{count_most, count_same, count_other}
use Rattle.plan.proofs.count_moves.Goals as goal
use Rattle.plan.proofs.count_moves.Goals.{then-moves, else-moves}

pub loop-j-init : goal.loop-j-init
unfolding changes_to changes
loop-j-init c = refl

pub overflow_add-c : goal.overflow_add-c
overflow_add-c c = omega (arith, c.requires.tablets.few, count_most c.args.relays.now c.args.relay.now c.args.tablets.now c.loop-j.j)

pub loop-j-preserved : goal.loop-j-preserved
loop-j-preserved c =
    elim c.if-moves.branch [
      | then-moves w ↦ w.c-is ∙ count_other _ _ _ _ c.loop-j.invariant (sym c.moves.ensures ∙ w.if-moves.true)
      | else-moves w ↦ w.c-is ∙ count_same _ _ _ _ c.loop-j.invariant (sym c.moves.ensures ∙ w.if-moves.false)
    ]
