-- The call once it is planned: what is written is the outcome.
--   enrolled_answers    so the call keeps its promise
--   place_still         the newcomer's place is the same once the others sat down
-- Assumes nothing.
use mathlib.Core.Path.{◌≡◌, refl, sym, ap, ◌∙◌}
use mathlib.Core.List.{List, [], ◌∷◌}
use Prim.Native.Nat.{ℕ, ◌+◌, ◌≤◌, ◌<◌}
use native.Mathlib.Omega.{arith}
use lib.ListN.{length, get_or}
use Rattle.ring.specs.Scheme.{positions}
use Rattle.ring.specs.declared.TabletNumber.{TabletNumber}
use Rattle.rule.specs.declared.Refusal.TheVariants.{Done}
use Rattle.rule.specs.declared.Call.TheVariants.{Enrol}
use Rattle.rule.specs.declared.Move.{Move}
use Rattle.rule.specs.Entry.{Entry, insert, put}
use Rattle.rule.specs.Refusals.{replied}
use Rattle.rule.specs.Calls.{refusal, accepted, moves}
use Rattle.rule.specs.Calls as Calls
use Rattle.rule.specs.Sweeps.{seated}
use Rattle.rule.specs.Stability.{Rising}
use Rattle.rule.specs.Moves.{tablets_listed}
use Rattle.rule.proofs.Puts.{put_insert}
use Rattle.tables.specs.Table.{relay_number, tablet_number, tablet_places}
use Rattle.meaning.specs.Meaning.{tablets_in, ring_of}
use Rattle.write.specs.Tables.{tablet_table, listed}
use Rattle.write.specs.Wrote.{WroteEntries, Place}
use Rattle.write.proofs.Filled.{table_wrote, zeros_behind}
use Rattle.promise.specs.Promise.{Answers}
use Rattle.call_start.specs.Promise.{lists, after}
use Rattle.call_start.proofs.Refusals.{accepted_answers}
use Rattle.newcomer.specs.declared.Enrolment.{Enrolment}
use Rattle.newcomer.specs.Newcomer.{others_of, Worked}
use Rattle.enrol.specs.Enrol.{OthersSeated}
use Rattle.newcomer.proofs.Outcomes.{length_others}
use Rattle.enrol.proofs.Seated.{places_still}

-- the newcomer put in before or after the others sat down
seated_insert : (ms : List Move) (low : ℕ) → Rising low (tablets_listed ms) → (x c : ℕ) → x ≤ low → (es : List Entry)
    → seated ms (insert x c es) ≡ insert x c (seated ms es)
unfolding seated
seated_insert [] low up x c h es = refl
seated_insert (m ∷ ms) low up x c h es =
    ap (seated ms) (put_insert m.tablet.0 m.new.0 x c es (λ (e : m.tablet.0 ≡ x). omega (arith, up.0)))
    ∙ seated_insert ms m.tablet.0 up.1 x c (omega (arith, up.0)) (put m.tablet.0 m.new.0 es)

module _ {s : ℕ} {rs ts ms : List ℕ} {t : TabletNumber} {p : Enrolment} (w : Worked s rs ts ms t p) where
  pub place_still : {ts₁ ms₁ : List ℕ} → OthersSeated t.0 rs ts ms p.chain ts₁ ms₁ p.m p.chain.others
      → (p.m < tablet_places ts₁) × Place (tablet_number ts₁) p.m t.0 p.at
  place_still {ts₁} sd = (
    places_still ts₁ ts sd.size w.unused,
    record {
      within = w.place.within;
      below = λ i a. let z = w.place.below i a in omega (arith, sd.numbers i);
      above = λ i a q. let z = w.place.above i a q in omega (arith, sd.numbers i);
    },
  )

  pub enrolled_answers : {ts₁ ms₁ ts₂ : List ℕ} → OthersSeated t.0 rs ts ms p.chain ts₁ ms₁ p.m p.chain.others → (r i : ℕ) → i ≡ get_or p.chain.seat 0 0 → r ≡ relay_number rs i
      → WroteEntries ts₁ ts₂ (p.m + 1) (insert t.0 r (tablets_in ts₁ p.m))
      → Answers (after s rs ts ms (Enrol t)) (replied Done r p.chain.steps p.chain.others) (lists rs ts₂ ms₁)
  unfolding accepted tablet_table
  enrolled_answers {ts₁} {ms₁} {ts₂} sd r i ei er wrote =
      let relay : r ≡ relay_number rs (get_or p.chain.seat 0 0) = er ∙ ap (relay_number rs) ei in
      let others : List Move = others_of t.0 rs ts p.chain.place p.chain.seat p.chain.others in
      let entries : tablets_in ts₂ (p.m + 1) ≡ (Calls.after (positions s) (ring_of rs ts) (Enrol t)).tablets =
      wrote.entries ∙ ap (λ (z : ℕ). insert t.0 z (tablets_in ts₁ p.m)) relay
      ∙ ap (insert t.0 (relay_number rs (get_or p.chain.seat 0 0))) sd.entries
      ∙ sym (seated_insert others t.0 w.above t.0 (relay_number rs (get_or p.chain.seat 0 0)) (omega arith)
      (tablets_in ts p.m))
      ∙ sym w.tablets in
      let whole : WroteEntries ts ts₂ (p.m + 1) (Calls.after (positions s) (ring_of rs ts) (Enrol t)).tablets =
      record {
        size = wrote.size ∙ sd.size;
        entries = entries;
        number = λ j a. wrote.number j a
            ∙ sd.numbers j;
        beside = λ j a. wrote.beside j a ∙ sd.relays j (omega arith);
      } in
      accepted_answers s rs ts ms (Enrol t) w.refusal _ rs ts₂ ms₁
      (λ k. replied Done ((relay ∙ sym w.relay) k) (sym w.passed k)
      ((sym (length_others t.0 rs ts p.chain.place p.chain.seat p.chain.others)
      ∙ ap length (sym w.moves)) k))
      w.relays
      (table_wrote whole w.whole (omega (arith, w.unused)) (zeros_behind (p.m + 1) (omega arith) w.zeros))
      (sd.list ∙ ap (λ (z : List Move). listed z ms) (sym w.moves))
