-- `entries::entries` meets its contract: where the numbers end, the shape is tested. Assumes nothing.
use mathlib.Core.Path.{sym, ◌∙◌}
use Rattle.entries.proofs.Tested.{counted, table_edge}
use Rattle.entries.proofs.entries.Goals as goal

pub returns-then-has_shape : goal.returns-then-has_shape
returns-then-has_shape c = counted _ _ _ (sym c.has_shape.ensures ∙ c.if-has_shape.true)

pub returns-else-has_shape : goal.returns-else-has_shape
returns-else-has_shape c =
    sym (table_edge _ _ _ c.edge-n.ensures) ∙ sym c.has_shape.ensures ∙ c.if-has_shape.false
