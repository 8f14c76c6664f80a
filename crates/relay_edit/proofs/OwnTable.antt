-- The call's own relay table: right tables copied, then one relay put in, taken out or changed.
--   stands_few, stands_short               how many relays there are, and numbers
--   insert_fits, insert_written            one relay put in
--   change_fits, here_small                a relay that is there may be taken out or changed, and its number is of 32 bits
--   delete_written, put_written            one relay taken out, one given another limit
-- Assumes nothing.
use mathlib.Core.Bool.{true, false}
use mathlib.Core.List.{List}
use mathlib.Core.Path.{◌≡◌, refl, sym, ap, ap₂, ◌∙◌}
use Prim.Native.Nat.{ℕ, ◌+◌, ◌-◌, ◌%◌, ◌^◌, ◌≤◌, ◌<◌}
use native.Mathlib.Omega.{arith}
use borrow.Author.Tests.{eqb-true}
use lib.ListN.{length}
use Rattle.ring.specs.Most.{most_relays}
use Rattle.ring.specs.Scheme.{positions}
use Rattle.ring.specs.declared.RelayNumber.{RelayNumber}
use Rattle.rule.specs.declared.Call.TheVariants.{Add, Remove, Set}
use Rattle.rule.specs.Entry.{Entry, has, insert, delete, put}
use Rattle.rule.specs.Rule.{Ring}
use Rattle.rule.specs.Calls.{edited}
use Rattle.tables.specs.Table.{relay_places, is_whole, relay_number, relay_limit, places_of}
use Rattle.meaning.specs.Meaning.{relays_in, ring_of}
use Rattle.meaning.specs.Rising.{Rises}
use Rattle.meaning.proofs.Words.{relay_number_word}
use Rattle.write.specs.Tables.{flat, filled}
use Rattle.write.specs.Wrote.{WroteEntries, Place, Climbs}
use Rattle.write.specs.Places.{TookOut, Zeros}
use Rattle.write.proofs.Filled.{table_wrote, table_taken}
use Rattle.lookup.proofs.There.{spot_here, spot_above}
use Rattle.call_start.proofs.Stays.{relays_whole, relays_few_lem}
use Rattle.call_start.proofs.Refusals.{start_rises, start_ring}
use Rattle.relay_edit.specs.declared.found.Found.{Found}
use Rattle.relay_edit.specs.Found.{Stands}
use Rattle.relay_edit.specs.Edited.{own_numbers, Copied, Written}
use Rattle.relay_edit.proofs.Copies.{copied_number, copied_limit, copied_relays}

module _ {s : ℕ} {rs ts : List ℕ} {x : ℕ} {f : Found} (stands : Stands s rs ts x f) where
  abbrev n : ℕ
  n = f.n

  abbrev m : ℕ
  m = f.m

  abbrev at : ℕ
  at = f.at

  rises : Rises (positions s) rs ts n m
  rises = start_rises stands.start

  pub stands_few : n ≤ most_relays
  stands_few = rises.relays_fit.few

  pub stands_short : length rs ≤ own_numbers
  unfolding is_whole places_of
  stands_short = omega (arith, eqb-true (length rs % 2) 0 (relays_whole stands.start), relays_few_lem stands.start)

  -- ---- the copy of the table

  module _ {own : List ℕ} (cp : Copied rs own) where
    own_places : (is_whole own ≡ true) × (relay_places own ≡ most_relays)
    unfolding is_whole places_of
    own_places = (rw cp.size refl, omega (arith, cp.size))

    own_zeros : (k : ℕ) → n ≤ k → Zeros (relay_number own) (relay_limit own) k (relay_places own)
    own_zeros k h = record {
      numbers = λ i l u. copied_number cp i ∙ (rises.relays_rest i (omega arith)).0;
      besides = λ i l u. copied_limit cp i ∙ (rises.relays_rest i (omega arith)).1;
    }

    own_climbs : Climbs (relay_number own) n
    own_climbs = record { up = λ i l h k. rw (copied_number cp i, copied_number cp l) (rises.relays.up i l h k) }

    -- the ring's relays are those of the copy
    own_relays : relays_in own n ≡ (ring_of rs ts).relays
    own_relays = copied_relays cp n ∙ ap (λ (g : Ring). g.relays) (sym (start_ring stands.start))

    -- ---- one put in

    module _ (out : has (relays_in rs n) x ≡ false) (room : n < relay_places rs) where
      pub insert_fits : (n < relay_places own) × Place (relay_number own) n x at
      insert_fits = (
        omega (arith, own_places.1, relays_few_lem stands.start),
        record {
          within = stands.spot.within;
          below = λ i l. rw (copied_number cp i) (stands.spot.below i l);
          above = λ i l u. rw (copied_number cp i)
              (spot_above (relay_limit rs) rises.relays stands.spot out i l u);
        },
      )

      pub insert_written : (r : RelayNumber) (limit : ℕ) {own' : List ℕ} → r.0 ≡ x
          → WroteEntries own own' (n + 1) (insert x limit (relays_in own n))
          → Written rs ts (Add r limit) (n + 1) own'
      unfolding edited
      insert_written r limit er o = record {
        size = o.size ∙ cp.size;
        relays = o.entries ∙ same;
        table = table_wrote o own_places.0 (omega (arith, own_places.1, relays_few_lem stands.start))
            (own_zeros (n + 1) (omega arith))
            ∙ ap₂ (λ (k : ℕ) (l : List Entry). filled k (flat l)) cp.size same;
        fits = omega arith;
      }
        where
          same : insert x limit (relays_in own n) ≡ insert r.0 limit (ring_of rs ts).relays
          same = ap₂ (λ (k : ℕ) (l : List Entry). insert k limit l) (sym er) own_relays

    -- ---- one taken out or changed

    module _ (is : has (relays_in rs n) x ≡ true) where
      here : (at < n) × (relay_number own at ≡ x)
      here =
          let h : (at < n) × (relay_number rs at ≡ x) = spot_here (relay_limit rs) rises.relays stands.spot is in
          (h.0, copied_number cp at ∙ h.1)

      pub here_small : x < 2 ^ 32
      here_small = rw (← here.1) (rw (copied_number cp at) (relay_number_word stands.start.relay_words at))

      pub change_fits : (at < n) × (n ≤ relay_places own) × Climbs (relay_number own) n
      change_fits = (here.0, omega (arith, own_places.1, rises.relays_fit.few), own_climbs)

      pub delete_written : (r : RelayNumber) {own' : List ℕ} → r.0 ≡ x
          → TookOut relay_number relay_limit own own' (n - 1) (delete (relay_number own at) (relays_in own n))
          → Written rs ts (Remove r) (n - 1) own'
      unfolding edited
      delete_written r er o = record {
        size = o.size ∙ cp.size;
        relays = o.entries ∙ same;
        table = table_taken o own_places.0 (omega (arith, here.0)) change_fits.1 (own_zeros n (omega arith))
            ∙ ap₂ (λ (k : ℕ) (l : List Entry). filled k (flat l)) cp.size same;
        fits = omega (arith, rises.relays_fit.there);
      }
        where
          same : delete (relay_number own at) (relays_in own n) ≡ delete r.0 (ring_of rs ts).relays
          same = ap₂ delete (here.1 ∙ sym er) own_relays

      pub put_written : (r : RelayNumber) (limit : ℕ) {own' : List ℕ} → r.0 ≡ x
          → WroteEntries own own' n (put (relay_number own at) limit (relays_in own n))
          → Written rs ts (Set r limit) n own'
      unfolding edited
      put_written r limit er o = record {
        size = o.size ∙ cp.size;
        relays = o.entries ∙ same;
        table = table_wrote o own_places.0 change_fits.1 (own_zeros n (omega arith))
            ∙ ap₂ (λ (k : ℕ) (l : List Entry). filled k (flat l)) cp.size same;
        fits = rises.relays_fit.there;
      }
        where
          same : put (relay_number own at) limit (relays_in own n) ≡ put r.0 limit (ring_of rs ts).relays
          same = ap₂ (λ (k : ℕ) (l : List Entry). put k limit l) (here.1 ∙ sym er) own_relays
