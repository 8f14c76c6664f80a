-- `write::insert` meets its contract: the places from `at` on are moved up, and the entry is written there. Assumes nothing.
use mathlib.Core.Path.{◌∙◌, subst}
use native.Mathlib.Nat.{le_antisymm}
use Rattle.write.proofs.Shifts.{place_at, Raised, put_in}
use Rattle.write.proofs.Written.{set_changed, wrote_entries}
use Rattle.write.proofs.insert.Goals as goal

pub returns : goal.returns
returns c =
    let v = c.loop-i.invariant in
    let s = c.set-2.ensures in
    let up = subst (Raised (place_at c.args.table.now) (place_at c.loop-i.table) c.args.n) (le_antisymm c.loop-i-test.false v.0) v.1 in
    wrote_entries (s.size ∙ c.loop-i.auto.table) (put_in _ _ c.args.n c.args.at _ _ up c.requires.1 (set_changed s))
