-- Runs of calls on lent numbers: history plays no part, and the tally tells the loads.
--   same_numbers     right tables of one scheme and the same lengths, with the same sets, are the same to the last number
--   run_free         so two runs that end with the same sets, under one scheme, end with the same tables, whatever calls led there
--   run_loads        from empty tables and a zero tally the relays' loads sum to enrolments less withdrawals, under whatever schemes the calls are
-- Assumes nothing.
use mathlib.Core.Bool.{true}
use mathlib.Core.List.{List, [], ◌∷◌}
use mathlib.Core.Path.{◌≡◌, refl, sym, ap, ap₂, subst, ◌∙◌}
use Prim.Native.Nat.{ℕ, ◌+◌}
use lib.ListN.{length}
use Rattle.ring.specs.Scheme.{positions}
use Rattle.rule.specs.Entry.{loads}
use Rattle.rule.specs.Tally.{Station, run, new, Going, Fit}
use Rattle.rule.specs.Sets.{SameSets}
use Rattle.rule.proofs.History.{same_tables}
use Rattle.rule.proofs.Tallies.{tally_loads}
use Rattle.tables.specs.Table.{relay_places, relay_number, relay_limit, tablet_places, tablet_number, tablet_relay}
use Rattle.tables.specs.Shape.{relays_used, tablets_used, used_in}
use Rattle.tables.proofs.Shaped.{used_most}
use Rattle.meaning.specs.Meaning.{places, ring_of, tables_right}
use Rattle.meaning.proofs.Fit as Tables
use Rattle.meaning.proofs.Fit.{whole_relays, whole_tablets, right_fit, right_ruled}
use Rattle.write.specs.Tables.{relay_table, tablet_table}
use Rattle.write.proofs.Filled.{rest_zeros, table_as_it_is}
use Rattle.tally.specs.Counted.{tally_of}
use Rattle.histories.specs.Runs.{Memory, Step, called, called_all, gone_by, Small, Blank, station_of, steps_of}
use Rattle.histories.proofs.Kept.{call_lengths}
use Rattle.histories.proofs.Runs.{run_right, run_means}

-- ---- tables that fit are the paper's tables of what they mean

module _ (rs ts : List ℕ) (fits : Tables.Fit rs ts) where
  relays_stay : rs ≡ relay_table (length rs) (ring_of rs ts)
  unfolding relay_table ring_of used_in
  relays_stay =
      table_as_it_is rs (relays_used rs) (whole_relays rs fits.relays).0 (used_most (relay_number rs) (relay_places rs))
      (rest_zeros (relay_number rs) (relay_limit rs) (relays_used rs) (relay_places rs) fits.relays_rest)

  tablets_stay : ts ≡ tablet_table (length ts) (ring_of rs ts)
  unfolding tablet_table ring_of used_in
  tablets_stay =
      table_as_it_is ts (tablets_used ts) (whole_tablets ts fits.tablets).0
      (used_most (tablet_number ts) (tablet_places ts))
      (rest_zeros (tablet_number ts) (tablet_relay ts) (tablets_used ts) (tablet_places ts) fits.tablets_rest)

-- ---- history plays no part

module _ (s : ℕ) (rs₁ ts₁ rs₂ ts₂ : List ℕ) where
  pub same_numbers : tables_right s rs₁ ts₁ ≡ true → tables_right s rs₂ ts₂ ≡ true → length rs₁ ≡ length rs₂ → length ts₁
      ≡ length ts₂
      → SameSets (ring_of rs₁ ts₁) (ring_of rs₂ ts₂) → (rs₁ ≡ rs₂) × (ts₁ ≡ ts₂)
  same_numbers ok₁ ok₂ er et same =
      let f₁ : Tables.Fit rs₁ ts₁ = right_fit rs₁ ts₁ s ok₁ in
      let f₂ : Tables.Fit rs₂ ts₂ = right_fit rs₂ ts₂ s ok₂ in
      let e : ring_of rs₁ ts₁ ≡ ring_of rs₂ ts₂ =
      same_tables (positions s) (ring_of rs₁ ts₁) (ring_of rs₂ ts₂) (right_ruled rs₁ ts₁ s ok₁)
      (right_ruled rs₂ ts₂ s ok₂) same in (
        relays_stay rs₁ ts₁ f₁ ∙ ap₂ relay_table er e ∙ sym (relays_stay rs₂ ts₂ f₂),
        tablets_stay rs₁ ts₁ f₁
            ∙ ap₂ tablet_table et e ∙ sym (tablets_stay rs₂ ts₂ f₂),
      )

run_lengths : (m : Memory) (cs : List Step) → Small cs
    → (length (called_all m cs).relays ≡ length m.relays) × (length (called_all m cs).tablets ≡ length m.tablets)
unfolding called_all called
run_lengths m [] f = (refl, refl)
run_lengths m (c ∷ cs) f =
    let l : (length (called_all (called m c) cs).relays ≡ length (called m c).relays)
    × (length (called_all (called m c) cs).tablets ≡ length (called m c).tablets) =
    run_lengths (called m c) cs f.1 in
    let k : (length (called m c).relays ≡ length m.relays) × (length (called m c).tablets ≡ length m.tablets) =
    call_lengths c.scheme m.relays m.tablets c.moves c.call f.0 in
    (l.0 ∙ k.0, l.1 ∙ k.1)

module _ (s : ℕ) (m₁ m₂ : Memory) (cs₁ cs₂ : List Step) (small₁ : Small cs₁) (small₂ : Small cs₂)
    (ok₁ : tables_right s m₁.relays m₁.tablets ≡ true) (ok₂ : tables_right s m₂.relays m₂.tablets ≡ true)
  where
    abbrev end₁ : Memory
    end₁ = called_all m₁ cs₁

    abbrev end₂ : Memory
    end₂ = called_all m₂ cs₂

    pub run_free : gone_by s m₁ cs₁ ≡ gone_by s m₂ cs₂ → length m₁.relays ≡ length m₂.relays → length m₁.tablets
        ≡ length m₂.tablets
        → SameSets (ring_of end₁.relays end₁.tablets) (ring_of end₂.relays end₂.tablets)
        → (end₁.relays ≡ end₂.relays) × (end₁.tablets ≡ end₂.tablets)
    run_free by er et same =
        same_numbers (gone_by s m₂ cs₂) end₁.relays end₁.tablets end₂.relays end₂.tablets
        (rw (← by) (run_right s m₁ cs₁ small₁ ok₁)) (run_right s m₂ cs₂ small₂ ok₂)
        ((run_lengths m₁ cs₁ small₁).0 ∙ er ∙ sym (run_lengths m₂ cs₂ small₂).0)
        ((run_lengths m₁ cs₁ small₁).1 ∙ et ∙ sym (run_lengths m₂ cs₂ small₂).1)
        same

-- ---- loads

steps_fit : (m : Memory) (cs : List Step) → Small cs → Fit (steps_of m cs)
unfolding steps_of
steps_fit m [] f = tt
steps_fit m (c ∷ cs) f = (f.0, steps_fit (called m c) cs f.1)

blank_new : (m : Memory) → Blank m → station_of m ≡ new
unfolding station_of ring_of places tally_of new
blank_new m b = rw (b.relays, b.tablets, b.tally)

pub run_loads : (m : Memory) (cs : List Step) → Small cs → Blank m → Going (tally_of (called_all m cs).tally)
    → loads (ring_of (called_all m cs).relays (called_all m cs).tablets).relays
    (ring_of (called_all m cs).relays (called_all m cs).tablets).tablets
    + (tally_of (called_all m cs).tally).withdrawals ≡ (tally_of (called_all m cs).tally).enrolments
unfolding station_of
run_loads m cs small b =
    let e : run new (steps_of m cs) ≡ station_of (called_all m cs) =
    sym (run_means m cs small (ap length b.tally) ∙ ap (λ (t : Station). run t (steps_of m cs)) (blank_new m b)) in
    subst (λ (t : Station). Going t.tally → loads t.ring.relays t.ring.tablets + t.tally.withdrawals
    ≡ t.tally.enrolments) e
    (tally_loads (steps_of m cs) (steps_fit m cs small))
