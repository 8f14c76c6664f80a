-- `plan::limit_sum` meets its contract. The invariant: `sum` is the limits of the first i relays, each at most the greatest limit. Assumes nothing.
use mathlib.Core.Path.{◌≡◌}
use Prim.Native.Nat.{◌*◌, ◌≤◌}
use Rattle.ring.specs.Most.{most_limit}
use Rattle.rule.specs.Entry.{total}
use Rattle.meaning.specs.Meaning.{relays_in}
use Rattle.plan.proofs.limit_sum.Given as goal

abbrev pub invariant-loop-i : goal.invariant-loop-i
invariant-loop-i l = (l.sum ≡ total (relays_in l.relays l.i)) × (l.sum ≤ most_limit * l.i)
