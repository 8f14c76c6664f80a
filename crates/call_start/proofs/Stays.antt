-- Right tables as the paper's tables of their entries, for a call that leaves one as it is, or writes it.
--   relays_whole, relays_zeros, tablets_whole, tablets_zeros    whole places, and zeros behind the entries
--   relays_few_lem                                                  no more places than may be lent
--   relays_stay, tablets_stay                                   a table that is not written is the table of its entries
-- Assumes nothing.
use mathlib.Core.Bool.{true}
use mathlib.Core.Path.{◌≡◌, sym, ap, ◌∙◌}
use mathlib.Core.List.{List}
use Prim.Native.Nat.{ℕ, ◌≤◌}
use lib.ListN.{length}
use Rattle.ring.specs.Most.{most_relays}
use Rattle.ring.specs.Scheme.{positions}
use Rattle.rule.specs.Entry.{Entry}
use Rattle.rule.specs.Rule.{Ring}
use Rattle.tables.specs.Table.{relay_places, relay_number, relay_limit, is_whole, tablet_places, tablet_number, tablet_relay}
use Rattle.survey.specs.declared.Survey.{Survey}
use Rattle.meaning.specs.Meaning.{relays_in, tablets_in}
use Rattle.meaning.specs.Rising.{Rises}
use Rattle.meaning.proofs.Fit.{Fit, whole_relays, whole_tablets, right_fit}
use Rattle.write.specs.Tables.{flat, filled, relay_table, tablet_table}
use Rattle.write.specs.Places.{Zeros}
use Rattle.write.proofs.Filled.{table_as_it_is}
use Rattle.call_start.specs.Start.{Start}
use Rattle.call_start.proofs.Refusals.{start_rises}

module _ {s : ℕ} {rs ts : List ℕ} {n m : ℕ} {v : Survey} (b : Start s rs ts n m v) where
  rises : Rises (positions s) rs ts n m
  rises = start_rises b

  fits : Fit rs ts
  fits = right_fit rs ts s b.right

  pub relays_whole : is_whole rs ≡ true
  relays_whole = (whole_relays rs fits.relays).0

  pub relays_few_lem : relay_places rs ≤ most_relays
  relays_few_lem = (whole_relays rs fits.relays).1

  pub tablets_whole : is_whole ts ≡ true
  tablets_whole = (whole_tablets ts fits.tablets).0

  pub relays_zeros : Zeros (relay_number rs) (relay_limit rs) n (relay_places rs)
  relays_zeros = record { numbers = λ i h k. (rises.relays_rest i h).0; besides = λ i h k. (rises.relays_rest i h).1 }

  pub tablets_zeros : Zeros (tablet_number ts) (tablet_relay ts) m (tablet_places ts)
  tablets_zeros = record { numbers = λ i h k. (rises.tablets_rest i h).0; besides = λ i h k. (rises.tablets_rest i h).1 }

  pub relays_stay : (g : Ring) → g.relays ≡ relays_in rs n → rs ≡ relay_table (length rs) g
  unfolding relay_table
  relays_stay g e =
      table_as_it_is rs n relays_whole rises.relays_fit.there relays_zeros
      ∙ ap (λ (l : List Entry). filled (length rs) (flat l)) (sym e)

  pub tablets_stay : (g : Ring) → g.tablets ≡ tablets_in ts m → ts ≡ tablet_table (length ts) g
  unfolding tablet_table
  tablets_stay g e =
      table_as_it_is ts m tablets_whole rises.tablets_fit.there tablets_zeros
      ∙ ap (λ (l : List Entry). filled (length ts) (flat l)) (sym e)
