-- `call_start::look` meets its contract: what the first look refuses, or what the placement does, and past both the survey is of right tables.
-- Assumes nothing.
use Rattle.call_start.proofs.Checked.{words_of, placement}
use Rattle.call_start.proofs.look.Goals as goal

pub returns : goal.returns
returns c =
    placement _ _ _ (words_of _ c.type_inv.relays) (words_of _ c.type_inv.tablets) c.in_ok-counts.ensures (λ v. v) _ c.look_over.ensures
