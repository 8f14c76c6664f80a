-- `write::delete` meets its contract: the places behind `at` are moved down, and the last is zeros. Assumes nothing.
use mathlib.Core.Path.{◌∙◌}
use Rattle.write.proofs.Shifts.{moved_down, taken_out}
use Rattle.write.proofs.Written.{set_changed, took_out}
use Rattle.write.proofs.delete.Goals as goal

pub returns : goal.returns
returns c =
    let t = c.args.table.now in
    let s = c.set.ensures in
    let m = c.copy_within.ensures.by_index in
    took_out (s.size ∙ c.copy_within.ensures.len)
    (taken_out _ _ c.args.n c.args.at (moved_down t c.copy_within.new.self c.args.n c.args.at c.requires.0 m.0 m.1 m.2) c.requires.0 c.requires.2 (set_changed s))
