-- The relays that are to be in ring order, and the tablets' homes.
--   stands_homes                those of right tables
--   put_asks, put_around        one relay put in
--   take_asks, take_around      one taken out
--   keep_around                 one given another limit
-- Assumes nothing.
use mathlib.Core.List.{List}
use mathlib.Core.Path.{◌≡◌, sym, ap, ◌∙◌, subst}
use Prim.Native.Nat.{ℕ, ◌+◌, ◌-◌, ◌^◌, ◌≤◌, ◌<◌}
use native.Mathlib.Omega.{arith}
use Rattle.ring.specs.Most.{most_relays, most_tablets}
use Rattle.ring.specs.Scheme.{positions}
use Rattle.rule.specs.Entry.{insert, delete}
use Rattle.tables.specs.Table.{relay_number, relay_limit, tablet_number}
use Rattle.order.specs.Keys.{ring_key, slot_relay, Slot}
use Rattle.survey.specs.declared.Survey.{Survey}
use Rattle.survey.specs.Seats.{Surveyed}
use Rattle.meaning.specs.Meaning.{relays_in}
use Rattle.meaning.specs.Ascending.{Ascending}
use Rattle.meaning.specs.Rising.{Rises}
use Rattle.meaning.proofs.Words.{tablet_number_word}
use Rattle.write.specs.Wrote.{WroteEntries, Place}
use Rattle.place.specs.Places.{SetBeside}
use Rattle.write.specs.Places.{TookOut}
use Rattle.ring.proofs.Positions.{position_small}
use Rattle.ring_edit.specs.declared.Around.{Around}
use Rattle.ring_edit.specs.Shift.{skip}
use Rattle.ring_edit.specs.Homes.{Homes, TakenOut, PutsIn, PutIn}
use Rattle.ring_edit.proofs.Rings.{surveyed_homes, taken_homes, put_homes, kept_homes}
use Rattle.call_start.proofs.Refusals.{start_rises}
use Rattle.relay_edit.specs.declared.found.Found.{Found}
use Rattle.relay_edit.specs.Found.{Stands}
use Rattle.relay_edit.specs.Edited.{Copied}
use Rattle.relay_edit.proofs.Copies.{copied_number}
use Rattle.relay_edit.proofs.Numbers.{deleted_number, inserted_number, inserted_here}

module _ {s : ℕ} {rs ts : List ℕ} {x : ℕ} {f : Found} (stands : Stands s rs ts x f) where
  abbrev n : ℕ
  n = f.n

  abbrev m : ℕ
  m = f.m

  abbrev at : ℕ
  at = f.at

  abbrev around : Around
  around = f.around

  rises : Rises (positions s) rs ts n m
  rises = start_rises stands.start

  abbrev known : Survey
  known =
      record {
        n = stands.survey.n;
        m = stands.survey.m;
        keys = around.keys;
        room = stands.survey.room;
        next = stands.survey.next;
        last = stands.survey.last;
        home = around.home;
        slot = stands.survey.slot;
      }

  surveyed : Surveyed (positions s) rs ts n m known
  surveyed = rw (stands.keys, stands.home) stands.start.surveyed

  small : (t : ℕ) → t < m → (positions s).tablet_at (tablet_number ts t) < 2 ^ 32
  small t h = position_small s (tablet_number ts t) (tablet_number_word stands.start.tablet_words t)

  stands_homes : Homes (positions s) rs ts n m around.keys around.home
  stands_homes = surveyed_homes rises.relays_fit.few surveyed small

  -- ---- one put in

  pub put_asks : n < most_relays → PutsIn ts n m at around.keys
  unfolding ring_key
  put_asks few = record {
    few = few;
    within = stands.spot.within;
    rises = surveyed.ordered.rises;
    small = λ k h.
        let o = surveyed.ordered.holds in
        omega (arith, o.key k h, o.relay k h, o.small (slot_relay around.keys k) (o.relay k h));
    tablets = rises.tablets_fit;
  }

  -- ---- one taken out

  pub take_asks : at < n → (n - 1 < most_relays) × (m ≤ most_tablets) × Slot around.keys (n - 1 + 1) at
  take_asks h =
      let e : n ≡ n - 1 + 1 = omega arith in (
        omega (arith, rises.relays_fit.few),
        rises.tablets_fit.few,
        subst (λ (k : ℕ). Slot around.keys k at) e
            (surveyed.ordered.holds.every at h),
      )

  -- ---- the copy of the table

  module _ {own : List ℕ} (cp : Copied rs own) where
    own_ascends : Ascending (relay_number own) n
    own_ascends = record {
      up = λ i l h k. rw (copied_number cp i, copied_number cp l) (rises.relays.up i l h k);
      numbered = λ i h. rw (copied_number cp i) (rises.relays.numbered i h);
      small = λ i h. rw (copied_number cp i) (rises.relays.small i h);
    }

    pub put_around : {own' : List ℕ} (limit : ℕ) {q : ℕ} {r : Around} → n < most_relays → Place (relay_number own) n x at
        → WroteEntries own own' (n + 1) (insert x limit (relays_in own n))
        → PutIn (positions s) ts n m at q around.keys around.home r
        → q ≡ (positions s).relay_at x → q < 2 ^ 32 → Homes (positions s) own' ts (n + 1) m r.keys r.home
    put_around {own'} limit few p o t eq lq =
        put_homes few p.within lq surveyed t small
        (λ i h. inserted_number (relay_number own) (relay_limit own) (relay_number own') (relay_limit own') limit
        p.within p.below
        p.above o.entries i h ∙ copied_number cp i)
        (eq ∙ ap (positions s).relay_at
        (sym (inserted_here (relay_number own) (relay_limit own) (relay_number own') (relay_limit own') limit p.within
        p.below p.above
        o.entries)))

    pub take_around : {own' : List ℕ} {r : Around} → at < n → TookOut relay_number relay_limit own own' (n - 1)
        (delete (relay_number own at) (relays_in own n))
        → TakenOut (n - 1) m at around.keys around.home r → Homes (positions s) own' ts (n - 1) m r.keys
        r.home
    take_around {own'} h o t =
        let e : n ≡ n - 1 + 1 = omega arith in
        taken_homes (omega (arith, rises.relays_fit.few))
        (subst (λ (k : ℕ). Homes (positions s) rs ts k m around.keys around.home) e stands_homes) t
        (λ i l.
        deleted_number (relay_number own) (relay_limit own) (relay_number own') (relay_limit own')
        (subst (Ascending (relay_number own)) e own_ascends) (omega arith)
        (o.entries ∙ ap (λ (k : ℕ). delete (relay_number own at) (relays_in own k)) e) i l
        ∙ copied_number cp (skip at i))

    pub keep_around : {own' : List ℕ} {limit : ℕ} → SetBeside relay_number relay_limit own own' at limit
        → Homes (positions s) own' ts n m around.keys around.home
    keep_around o = kept_homes rises.relays_fit.few (λ i h. o.numbers i ∙ copied_number cp i) stands_homes
