-- `plan::limit_sum` meets its contract. The invariant: `sum` is the limits of the first i relays, each at most the greatest limit. Assumes nothing.
use mathlib.Core.Path.{refl}
use native.Mathlib.Omega.{arith}
use Rattle.rule.specs.Entry.{total}
use Rattle.tables.specs.Table.{relay_number, relay_limit}
use Rattle.meaning.specs.Meaning.{places}
use Rattle.meaning.proofs.More.{total_more}
use Rattle.plan.proofs.limit_sum.Goals as goal

pub loop-i-init : goal.loop-i-init
unfolding places total
loop-i-init c = (refl, omega arith)

pub loop-i-preserved : goal.loop-i-preserved
loop-i-preserved c = (
  omega (
    arith,
    c.relay_limit.ensures,
    total_more (relay_number c.args.relays.now) (relay_limit c.args.relays.now) c.loop-i.i,
  ),
  omega (arith, c.relay_limit.ensures, c.requires.limits _ c.loop-i-test.true),
)
