-- `call_start::first_look` meets its contract: each refusal is the first that applies. Assumes nothing.
use Rattle.call_start.proofs.Checked.{words_of, unknown_barred, shaped}
use Rattle.call_start.proofs.first_look.Goals as goal

pub returns-then-not-scheme_known : goal.returns-then-not-scheme_known
returns-then-not-scheme_known c = unknown_barred _ _ _ c.scheme_known.ensures c.if-not-scheme_known.true

pub returns : goal.returns
returns c =
    rw c.ok_or.ensures.value
    (shaped _ _ _ (words_of _ c.type_inv.relays) (words_of _ c.type_inv.tablets) c.scheme_known.ensures
    c.if-not-scheme_known.false _ c.shapes.ensures)
