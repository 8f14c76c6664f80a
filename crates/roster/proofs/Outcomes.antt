-- From what a reading finds to what it promises.
--   refused_answers            a reading that is refused leaves what is lent
--   open_few, open_room        the blocks fit scratch, they are there, and the lent tables can take them
--   over_wrong, over_right     the content is wrong, and the reading refused, or right, and the tables are written
-- Assumes nothing.
use mathlib.Core.Bool.{Bool, true, false, not, ◌&&◌}
use mathlib.Core.List.{List, [], ◌∷◌}
use mathlib.Core.Path.{◌≡◌, refl, sym, ap, ◌∙◌}
use Prim.Native.Nat.{ℕ, ◌*◌, ◌≤◌}
use native.Mathlib.Omega.{arith}
use borrow.Author.Tests.{leb-true}
use lib.Dec.{leb}
use lib.ListN.{length}
use Rattle.ring.proofs.Tests.{and_left, and_right}
use Rattle.rule.specs.declared.Refusal.{Refusal}
use Rattle.rule.specs.declared.Refusal.TheVariants.{Done, RosterContentWrong}
use Rattle.rule.specs.Refusals.{is_done, bare_reply, bar, first_bar}
use Rattle.tables.specs.Table.{relay_places, tablet_places, places_of}
use Rattle.tables.specs.Shape.{relay_fits, tablet_fits}
use Rattle.promise.specs.Promise.{Answers}
use Rattle.promise.proofs.OneAnswer as Promise
use Rattle.write.specs.Tables.{relay_table, tablet_table}
use Rattle.layout.specs.declared.Trailer.{Trailer}
use Rattle.layout.specs.Roster.{relay_count, tablet_count, roster_scheme, entry_bytes, block, roster_ring, Shape}
use Rattle.layout.specs.Opened.{opened}
use Rattle.layout.proofs.Trailers.{shape_is, shape_ring}
use Rattle.layout.proofs.Rows.{block_length}
use Rattle.roster.specs.Content.{content_right, tables_fit}
use Rattle.roster.specs.Reading.{refusal, taken, after, refused_reading}
use Rattle.roster.specs.Inner.{Open, full_blocks, Room, TakenOver, NotTaken}
use Rattle.roster.proofs.Contents.{full_content}

-- ---- the promise of a refused reading, and of one that is taken

module _ (b rs ts : List ℕ) where
  pub refused_answers : {why : Refusal} → (refusal b rs ts ≡ why) × (is_done why ≡ false)
      → Answers (after b rs ts) (refused_reading why) (rs, ts)
  unfolding after
  refused_answers w =
      Promise.refused_answers (refusal b rs ts) (refused_reading (refusal b rs ts)) (rs, ts) _ (ap is_done w.0 ∙ w.1)
      (ap refused_reading (sym w.0))

  taken_answers : refusal b rs ts ≡ Done → {scheme : ℕ} {rs' ts' : List ℕ} → scheme ≡ roster_scheme b
      → rs' ≡ relay_table (length rs) (roster_ring b) → ts' ≡ tablet_table (length ts) (roster_ring b)
      → Answers (after b rs ts) (record { reply = bare_reply Done; scheme = scheme }) (rs', ts')
  unfolding after taken is_done
  taken_answers e es ers ets =
      Promise.done_answers (refusal b rs ts) (refused_reading (refusal b rs ts)) (rs, ts) (taken b rs ts) (ap is_done e)
      (record { reply = λ i. record { reply = bare_reply Done; scheme = es i }; lent = λ i. (ers i, ets i) })

-- ---- past the refusals before the content

module _ {b rs ts : List ℕ} {t : Trailer} (o : Open b rs ts t) where
  shape : Shape b
  shape = shape_is b o.shape

  relays_say : t.relays ≡ relay_count b
  unfolding opened
  relays_say = ap (λ (x : Trailer). x.relays) o.says

  tablets_say : t.tablets ≡ tablet_count b
  unfolding opened
  tablets_say = ap (λ (x : Trailer). x.tablets) o.says

  scheme_says : t.scheme ≡ roster_scheme b
  unfolding opened
  scheme_says = ap (λ (x : Trailer). x.scheme) o.says

  fits : (t.relays ≤ relay_places rs) × (t.tablets ≤ tablet_places ts)
  unfolding tables_fit
  fits =
      let k₁ : Bool = relay_fits rs in
      let k₂ : Bool = tablet_fits ts in
      let k₃ : Bool = leb t.relays (relay_places rs) in
      let k₄ : Bool = leb t.tablets (tablet_places ts) in
      let e : (k₃ && k₄) ≡ true = and_right k₂ (k₃ && k₄) (and_right k₁ (k₂ && (k₃ && k₄)) o.fit) in
      (leb-true _ _ (and_left k₃ k₄ e), leb-true _ _ (and_right k₃ k₄ e))

  -- two numbers to an entry
  pub open_few : (2 * t.relays ≤ 512) × (2 * t.tablets ≤ 8192)
  open_few = (omega (arith, shape.relays, relays_say), omega (arith, shape.tablets, tablets_say))

  pub open_room : {own own₂ : List ℕ} → length own ≡ 2 * t.relays → length own₂ ≡ 2 * t.tablets
      → Room b t.relays t.tablets own own₂ rs ts
  unfolding places_of
  open_room e e₂ =
      record {
        there = omega (arith, shape.size, relays_say, tablets_say);
        scratch = e;
        scratch₂ = e₂;
        relays = omega (arith, fits.0);
        tablets = omega (arith, fits.1);
      }

  open_ring : roster_ring b ≡ record {
    relays = block b 0 t.relays;
    tablets = block b (entry_bytes * t.relays)
        t.tablets;
  }
  open_ring = shape_ring b shape ∙ rw (relays_say, tablets_say)

  open_content : full_blocks b t ≡ content_right b
  unfolding full_blocks content_right
  open_content =
      full_content t.scheme (block b 0 t.relays) (block b (entry_bytes * t.relays) t.tablets)
      (omega (arith, block_length b 0 t.relays, shape.relays, relays_say))
      (omega (arith, block_length b (entry_bytes * t.relays) t.tablets, shape.tablets, tablets_say))
      ∙ rw (open_ring, scheme_says)

  why_content : (full : Bool) → full_blocks b t ≡ full
      → refusal b rs ts ≡ first_bar (bar (not full) RosterContentWrong ∷ [])
  unfolding refusal first_bar
  why_content full e =
      rw (
        o.shape,
        ← scheme_says,
        o.known,
        ← relays_say,
        ← tablets_say,
        o.fit,
        ← open_content,
        e,
      )

  module _ {rs' ts' : List ℕ} where
    pub over_wrong : {why : Refusal} → (why ≡ RosterContentWrong) × NotTaken b t rs ts rs' ts'
        → Answers (after b rs ts) (refused_reading why) (rs', ts')
    unfolding first_bar is_done
    over_wrong w =
        rw (w.1.relays, w.1.tablets, w.0)
        (refused_answers b rs ts (why_content false w.1.full, refl))

    pub over_right : TakenOver b t rs ts rs' ts'
        → Answers (after b rs ts) (record { reply = bare_reply Done; scheme = t.scheme }) (rs', ts')
    unfolding first_bar relay_table tablet_table
    over_right w =
        taken_answers b rs ts (why_content true w.full) scheme_says (w.relays ∙ rw open_ring) (w.tablets ∙ rw open_ring)
