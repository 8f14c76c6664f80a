-- `entries::shape::has_shape` meets its contract: the definition's two tests, in its order. Assumes nothing.
use mathlib.Core.Path.{sym, ◌∙◌}
use Rattle.tables.specs.Shape.{table_shape}
use Rattle.entries.proofs.shape.has_shape.Goals as goal

pub returns-then-fits : goal.returns-then-fits
unfolding table_shape
returns-then-fits c = rw (sym c.fits.ensures ∙ c.if-fits.true) c.shape.ensures

pub returns-else-fits : goal.returns-else-fits
unfolding table_shape
returns-else-fits c = c.if-fits.false ∙ rw (sym c.fits.ensures ∙ c.if-fits.false)
