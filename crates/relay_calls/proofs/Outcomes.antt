-- From the edit of a relay call, through its plan, to the promise.
--   edit_refused                     a refusal from 1 to 7
--   edit_passed, edit_plans          past them the plan can be made
--   plan_refused                     the refusals 8 and 9
--   plan_carries, plan_count,
--   plan_answers                     past them the plan can be carried out, and that is what document 01 defines
-- Assumes nothing.
use mathlib.Core.Bool.{false}
use mathlib.Core.List.{List, []}
use mathlib.Core.Path.{◌≡◌, refl, sym, ap, ap₂, ◌∙◌}
use Prim.Native.Nat.{ℕ, ◌/◌, ◌%◌, ◌≤◌}
use native.Mathlib.Omega.{arith}
use borrow.Author.Tests.{eqb-true, ltb-true, ltb-false}
use lib.Dec.{ltb}
use lib.ListN.{length}
use Rattle.ring.specs.Most.{most_relays, most_tablets}
use Rattle.ring.specs.Scheme.{Positions, positions}
use Rattle.ring.specs.Clockwise.{key}
use Rattle.ring.proofs.Tests.{split, true_false}
use Rattle.std.proofs.Common.{Result, Ok, Err}
use Rattle.std.proofs.lemmas.Result.{MatchResult-at_ok, MatchResult-at_err}
use Rattle.rule.specs.declared.Refusal.{Refusal}
use Rattle.rule.specs.declared.Refusal.TheVariants.{Done}
use Rattle.rule.specs.declared.Call.{Call}
use Rattle.rule.specs.declared.Reply.{Reply}
use Rattle.rule.specs.declared.Move.{Move}
use Rattle.rule.specs.Entry.{Entry, numbers, total}
use Rattle.rule.specs.Rule.{Ring}
use Rattle.rule.specs.Rooms.{fill}
use Rattle.rule.specs.Refusals.{is_done, replied, first_bar}
use Rattle.rule.specs.Calls.{edited, moved, moves, refusal, accepted}
use Rattle.rule.specs.Calls as Calls
use Rattle.rule.proofs.Accepted.{Edited, edited_tables, after_fill}
use Rattle.tables.specs.Table.{is_whole, relay_number, relay_limit, RelaysIn, tablet_number, tablet_relay, places_of}
use Rattle.meaning.specs.Meaning.{places, relays_in, tablets_in, ring_of, lent_of}
use Rattle.meaning.specs.Ascending.{Ascending}
use Rattle.meaning.specs.Rising.{Rises}
use Rattle.meaning.proofs.Places.{places_ext, length_places, places_table, places_limits}
use Rattle.meaning.proofs.Run.{run_fill}
use Rattle.write.specs.Tables.{flat, filled, relay_table, tablet_table, listed}
use Rattle.write.proofs.Filled.{length_flat, table_wrote}
use Rattle.promise.specs.Promise.{Answers}
use Rattle.call_start.specs.Promise.{lists, after, Ends}
use Rattle.call_start.proofs.Stays.{relays_whole, relays_few_lem, tablets_whole, tablets_zeros}
use Rattle.call_start.proofs.Refusals.{start_rises, start_ring, limits_refused, list_refused, all_passed, refused_answers, accepted_answers}
use Rattle.ring_edit.specs.Homes.{Homes}
use Rattle.plan.specs.Changes.{new_relay, changes_to, ruled_relay, ruled_changes}
use Rattle.plan.specs.Plan.{Plans, plan_refusal, Settled, Planned}
use Rattle.plan.specs.Carried.{Carries, Carried}
use Rattle.plan.proofs.Changes.{count_most, moved_changes}
use Rattle.plan.proofs.Plans.{ruled_relay_lem, ruled_changes_lem}
use Rattle.relay_edit.specs.declared.Edit.{Edit}
use Rattle.relay_edit.specs.Edited.{own_numbers, About, EditReady, Edits}
use Rattle.relay_calls.specs.Finish.{Replaced}
use Rattle.relay_calls.proofs.Replaced.{filled_replaced}

-- ---- a refusal from 1 to 7

pub edit_refused : {s : ℕ} {rs ts : List ℕ} (ms : List ℕ) {c : Call} {x : ℕ} {e : Result Edit Refusal} {why : Refusal}
    → Edits s rs ts c x e → e ≡ Err why → Ends (after s rs ts ms c) (Err why) (lists rs ts ms)
edit_refused {s} {rs} {ts} ms {c} {why = why} o e =
    let w = MatchResult-at_err _ _ why e o.comes in
    (refused_answers s rs ts ms c why (w.0 ms) w.1 _ refl, w.1)

-- ---- past them

pub edit_passed : {s : ℕ} {rs ts : List ℕ} {c : Call} {x : ℕ} {r : Result Edit Refusal} {e : Edit}
    → Edits s rs ts c x r → r ≡ Ok e → EditReady s rs ts c e
edit_passed {e = e} o is = MatchResult-at_ok _ _ e is o.comes

module _ {s : ℕ} {rs ts : List ℕ} {c : Call} {e : Edit} (o : EditReady s rs ts c e) where
  abbrev n : ℕ
  n = e.n

  abbrev m : ℕ
  m = e.m

  abbrev own : List ℕ
  own = e.relays

  abbrev p : Positions
  p = positions s

  abbrev g : Ring
  g = ring_of rs ts

  rises : Rises p rs ts o.used m
  rises = start_rises o.start

  edited_right : Edited g c
  edited_right = edited_tables p (lent_of s rs ts []) g c rises.ring (o.numbers []) o.small

  ascends : Ascending (relay_number own) n
  ascends = places_table (relay_number own) (relay_limit own) n (rw o.written.relays edited_right.relays)

  fits : RelaysIn own n
  unfolding places_of
  fits =
      let few : n ≤ most_relays = omega (arith, o.written.fits, relays_few_lem o.start) in
      record { few = few; there = omega (arith, o.written.size) }

  pub edit_plans : Plans own ts n m e.around
  edit_plans = record {
    limited = record {
      relays = fits;
      limits = places_limits (relay_number own) (relay_limit own) n
          (rw o.written.relays edited_right.limits);
    };
    rising = ascends;
    tablets = rises.tablets_fit;
    positions = p;
    homes = o.homes;
  }

  -- what work_out says for all positions
  abbrev Always : (Positions → Type 0) → Type 0
  Always P = (q : Positions) → Homes q own ts n m e.around.keys e.around.home → P q

  pub edit_short : length rs ≤ own_numbers
  unfolding is_whole places_of
  edit_short = omega (arith, eqb-true (length rs % 2) 0 (relays_whole o.start), relays_few_lem o.start)

  -- ---- a call about a relay leaves the tablets' numbers

  module _ {x : ℕ} (a : About c x) (ms : List ℕ) where
    abbrev why : Refusal
    why = refusal p (lent_of s rs ts ms) g c

    found_tablets : g.tablets ≡ tablets_in ts m
    found_tablets = ap (λ (z : Ring). z.tablets) (start_ring o.start)

    same_tablets : (edited g c).tablets ≡ tablets_in ts m
    same_tablets = a.tablets g ∙ found_tablets

    same_length : length (edited g c).tablets ≡ m
    same_length = ap length same_tablets ∙ length_places (tablet_number ts) (tablet_relay ts) m

    same_total : total (edited g c).relays ≡ total (relays_in own n)
    same_total = ap total (sym o.written.relays)

    module _ (enough : m ≤ total (relays_in own n)) where
      enough_for : length (edited g c).tablets ≤ total (edited g c).relays
      enough_for = omega (arith, same_length, same_total)

      -- the tablets afterwards, and the moves
      after_tablets : (Calls.after p g c).tablets ≡ places (tablet_number ts) (ruled_relay p own ts n) m
      unfolding ruled_relay
      after_tablets =
          after_fill p g c edited_right enough_for
          ∙ ap₂ (λ (k : List Entry) (l : List Entry). fill (key p) k (numbers l))
          (sym o.written.relays) same_tablets
          ∙ sym (run_fill p own ts n fits.few ascends m enough)

      ruled_moves : moves p g c ≡ ruled_changes p own ts n m
      unfolding moves ruled_changes
      ruled_moves =
          ap₂ moved found_tablets after_tablets ∙ moved_changes (tablet_number ts) (tablet_relay ts)
          (ruled_relay p own ts n) m rises.tablets

    -- ---- the refusals 8 and 9

    applies : {w : Refusal} → plan_refusal p own ts n m (length ms / 3) ≡ w → is_done w ≡ false → why ≡ w
    unfolding plan_refusal first_bar lent_of is_done
    applies ew d =
        split (ltb (total (relays_in own n)) m)
        (λ t.
        limits_refused s rs ts ms c o.start (o.numbers ms)
        (omega (arith, ltb-true (total (relays_in own n)) m t, same_length, same_total))
        ∙ rw t at ew)
        (λ t.
        let l : m ≤ total (relays_in own n) = ltb-false (total (relays_in own n)) m t in
        let k : ℕ = length (ruled_changes p own ts n m) in
        split (ltb (length ms / 3) k)
        (λ u.
        list_refused s rs ts ms c o.start (o.numbers ms) (enough_for l)
        (rw (ruled_moves l) (ltb-true (length ms / 3) k u))
        ∙ rw (t, u) at ew)
        (λ u. absurd (true_false (ap is_done (rw (t, u) at ew) ∙ d))))

    pub plan_refused : {w : Refusal} → Always (λ q. Planned q own ts n m (length ms / 3) (Err w))
        → Ends (after s rs ts ms c) (Err w) (lists rs ts ms)
    plan_refused {w} worked =
        let d = worked p o.homes in
        (refused_answers s rs ts ms c w (applies d.0 d.1) d.1 _ refl, d.1)

    -- ---- the plan carried out

    module _ {relay : List ℕ} (worked : Always (λ q. Settled q own ts n m (length ms / 3) relay)) where
      z : Settled p own ts n m (length ms / 3) relay
      z = worked p o.homes

      pub plan_carries : Carries own relay ts ms m
      plan_carries = record {
        seated = record {
          tablets = rises.tablets_fit;
          relays = λ j h. omega
              (arith, z.refilled.below j h, fits.there);
        };
        room = omega (arith, z.fits);
      }

      -- their number is one of 32 bits
      pub plan_count : {ts' ms' : List ℕ} {k : ℕ} → Carried own relay ts ts' ms ms' m k → k ≤ most_tablets
      plan_count w = omega (arith, w.count, count_most own relay ts m, rises.tablets_fit.few)

      same_moves : moves p g c ≡ changes_to own relay ts m
      same_moves = ruled_moves z.enough ∙ sym (ruled_changes_lem z.refilled)

      passes : why ≡ Done
      unfolding lent_of
      passes =
          all_passed s rs ts ms c o.start (o.numbers ms) (enough_for z.enough)
          (omega (arith, ap length same_moves, z.fits))

      the_reply : {k : ℕ} → k ≡ length (changes_to own relay ts m) → ◌≡◌ {A = Reply} (replied Done x 0 k)
          (accepted p g c).reply
      unfolding accepted
      the_reply ek =
          λ i. replied Done (sym (a.relay p g) i) (sym (a.passed p g) i) ((ek ∙ ap length (sym same_moves)) i)

      the_relays : {rs' : List ℕ} → Replaced own rs rs' → rs' ≡ relay_table (length rs) (Calls.after p g c)
      unfolding relay_table Calls.after places_of
      the_relays w =
          let l : length (edited g c).relays ≡ n = ap length (sym o.written.relays)
          ∙ length_places (relay_number own) (relay_limit own) n in
          filled_replaced own_numbers (flat (edited g c).relays) w o.written.table
          (omega (arith, length_flat (edited g c).relays, o.written.fits))

      the_tablets : {ts' ms' : List ℕ} {k : ℕ} → Carried own relay ts ts' ms ms' m k
          → ts' ≡ tablet_table (length ts) (Calls.after p g c)
      unfolding tablet_table
      the_tablets w =
          table_wrote w.tablets (tablets_whole o.start) rises.tablets_fit.there
          (tablets_zeros o.start)
          ∙ ap (λ (l : List Entry). filled (length ts) (flat l))
          (places_ext (tablet_number ts) (new_relay own relay) (tablet_number ts) (ruled_relay p own ts n) m (λ j h. refl)
          (λ j h. ruled_relay_lem z.refilled j h)
          ∙ sym (after_tablets z.enough))

      pub plan_answers : {rs' ts' ms' : List ℕ} {k : ℕ} → Carried own relay ts ts' ms ms' m k → Replaced own rs rs'
          → Answers (after s rs ts ms c) (replied Done x 0 k) (lists rs' ts' ms')
      plan_answers {rs'} {ts'} {ms'} w v =
          accepted_answers s rs ts ms c passes _ rs' ts' ms' (the_reply w.count) (the_relays v)
          (the_tablets w) (w.list ∙ ap (λ (l : List Move). listed l ms) (sym same_moves))
