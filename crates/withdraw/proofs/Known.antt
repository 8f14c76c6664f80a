-- What the sweep for those who move relies on, from what a look has found.
--   start_sweeps    nobody had passed a relay with room, and who had passed a relay has a greater number than all tablets there
-- Assumes nothing.
use mathlib.Core.Bool.{true}
use mathlib.Core.Path.{◌≡◌, sym, ap, ◌∙◌, subst}
use mathlib.Core.List.{List}
use Prim.Native.Nat.{ℕ, ◌-◌, ◌^◌, ◌≤◌, ◌<◌}
use native.Mathlib.Omega.{arith}
use borrow.Author.Tests.{ltb-true, ltb-false}
use lib.Dec.{ltb}
use lib.ListN.{get_or}
use Rattle.ring.specs.Scheme.{Positions, positions}
use Rattle.ring.specs.Clockwise.{key}
use Rattle.ring.proofs.Tests.{split}
use Rattle.ring.proofs.Order.{sooner_key}
use Rattle.rule.specs.Entry.{Entry, entry, load}
use Rattle.rule.specs.Rule.{Ring}
use Rattle.rule.specs.Rooms.{held}
use Rattle.rule.specs.Walks.{had_passed}
use Rattle.rule.specs.Stability.{Sits, Fair, lower}
use Rattle.rule.specs.Facts.{Among, Right}
use Rattle.rule.proofs.Counts.{lower_load_one}
use Rattle.rule.proofs.Searches.{sits_among, among_sits}
use Rattle.rule.proofs.Right.{held_small, right_stable, right_loads}
use Rattle.rule.proofs.Holes.{room_passed}
use Rattle.tables.specs.Table.{relay_number, relay_limit, tablet_number, tablet_relay}
use Rattle.order.specs.Keys.{slot_relay}
use Rattle.survey.specs.declared.Survey.{Survey}
use Rattle.row.specs.Row.{slot_room}
use Rattle.meaning.specs.Meaning.{relays_in, tablets_in}
use Rattle.meaning.specs.Rising.{Rises}
use Rattle.meaning.proofs.Places.{places_sits, held_places}
use Rattle.meaning.proofs.Words.{tablet_relay_word}
use Rattle.meaning.proofs.Right.{right_room}
use Rattle.call_start.specs.Start.{Start}
use Rattle.call_start.proofs.Refusals.{start_rises, start_ring}
use Rattle.seat.proofs.Slotted.{home_within, home_byte, slot_within, slot_relay_lem, passed_steps}
use Rattle.holes.specs.Holes.{passed_at, Sweeps}
use Rattle.withdraw.proofs.Around.{around_steps}

-- ---- in the paper's words

module _ (p : Positions) (g : Ring) (r : Right p g) where
  -- who had passed a relay found it full of lower numbers
  passed_lower : (q : ℕ) → q < 2 ^ 32 → (e : Entry) → Among e g.tablets → had_passed p q e ≡ true
      → held g.relays q ≤ lower g.tablets q e.number
  unfolding had_passed
  passed_lower q small e i h =
      let f : Fair (key p) g.relays g.tablets e.number e.beside = right_stable p g r e.number e.beside
      (among_sits g.tablets e i) in
      let k : key p e.number q < key p e.number e.beside =
      ltb-true (key p e.number q) (key p e.number e.beside)
      (sym (sooner_key p e.number q e.beside small
      (held_small p g.relays r.relays e.beside (omega (arith, f.room)))) ∙ h) in
      split (ltb (lower g.tablets q e.number) (held g.relays q))
      (λ s. absurd (omega (arith, f.least q (ltb-true (lower g.tablets q e.number) (held g.relays q) s))))
      (λ s. ltb-false (lower g.tablets q e.number) (held g.relays q) s)

  -- so no greater number sits there
  passed_greater : (q : ℕ) → q < 2 ^ 32 → (e : Entry) → Among e g.tablets → had_passed p q e ≡ true → (x : ℕ)
      → Sits g.tablets x q → e.number ≤ x → ⊥
  passed_greater q small e i h x j l =
      omega (arith, passed_lower q small e i h, lower_load_one g.tablets q e.number x j l, right_loads p g r q)

-- ---- by slot and place

module _ {s : ℕ} {rs ts : List ℕ} {v : Survey} (b : Start s rs ts v.n v.m v) where
  rises : Rises (positions s) rs ts v.n v.m
  rises = start_rises b

  abbrev g : Ring
  g = record { relays = relays_in rs v.n; tablets = tablets_in ts v.m }

  pub right : Right (positions s) (record { relays = relays_in rs v.n; tablets = tablets_in ts v.m })
  right = subst (λ (x : Ring). Right (positions s) x) (start_ring b) rises.ring

  abbrev at : ℕ → Entry
  at j = entry (tablet_number ts j) (tablet_relay ts j)

  there : (j : ℕ) → j < v.m → Among (entry (tablet_number ts j) (tablet_relay ts j)) (tablets_in ts v.m)
  there j h =
      sits_among (tablets_in ts v.m) (tablet_number ts j) (tablet_relay ts j)
      (places_sits (tablet_number ts) (tablet_relay ts) v.m j h)

  inside : (i : ℕ) → i < v.m → slot_relay v.keys (get_or v.slot i 0) < v.n
  inside i h = b.surveyed.ordered.holds.relay (get_or v.slot i 0) (slot_within b i h)

  -- the tablet at place j had passed the relay of the tablet at place i
  pub passed_at_lem : (i j : ℕ) → i < v.m → j < v.m → passed_at v.home v.slot i j ≡ had_passed (positions s)
      (tablet_relay ts i) (entry (tablet_number ts j) (tablet_relay ts j))
  unfolding passed_at
  passed_at_lem i j h l =
      around_steps v.n (get_or v.home j 0) (get_or v.slot i 0) (get_or v.slot j 0) rises.relays_fit.few
      (home_within b j l) (home_byte b j l) (slot_within b i h) (slot_within b j l)
      ∙ sym (passed_steps b j l (get_or v.slot i 0) (slot_within b i h))
      ∙ ap (λ (q : ℕ). had_passed (positions s) q (at j)) (slot_relay_lem b i h)

  has_room_lem : (i : ℕ) → i < v.m → 0 < slot_room v.keys v.room (get_or v.slot i 0)
      → load (tablets_in ts v.m) (tablet_relay ts i) < held (relays_in rs v.n) (tablet_relay ts i)
  unfolding slot_room
  has_room_lem i h o =
      let k : ℕ = slot_relay v.keys (get_or v.slot i 0) in
      let e : get_or v.room k 0 ≡ relay_limit rs k - load (tablets_in ts v.m) (relay_number rs k) =
      ap (λ (l : List ℕ). get_or l k 0) b.surveyed.left ∙ right_room rises v.m (omega arith) k (inside i h) in
      subst (λ (q : ℕ). load (tablets_in ts v.m) q < held (relays_in rs v.n) q) (slot_relay_lem b i h)
      (omega (arith, held_places (relay_limit rs) rises.relays k (inside i h)))

  small : (i : ℕ) → i < v.m → tablet_relay ts i < 2 ^ 32
  small i h = tablet_relay_word b.tablet_words i

  pub start_sweeps : Sweeps v
  start_sweeps =
      record {
        few = rises.tablets_fit.few;
        slots = λ j h. omega (arith, slot_within b j h, rises.relays_fit.few);
        roomy = λ i j h l o. passed_at_lem i j h l ∙ room_passed (positions s) g right (tablet_relay ts i) (has_room_lem i h o)
            (at j) (there j l);
        shut = λ i j l h p a c e.
            passed_greater (positions s) g right (tablet_relay ts i) (small i h) (at j) (there j (omega arith))
            (sym (passed_at_lem i j h (omega arith)) ∙ p)
            (tablet_number ts l) (sits i l h c e) (rising j l a c);
      }
    where
      sits : (i l : ℕ) → i < v.m → l < v.m → get_or v.slot l 0 ≡ get_or v.slot i 0
          → Sits (tablets_in ts v.m) (tablet_number ts l) (tablet_relay ts i)
      sits i l h c e =
          subst (λ (x : ℕ). Sits (tablets_in ts v.m) (tablet_number ts l) x)
          (sym (slot_relay_lem b l c) ∙ ap (λ (x : ℕ). relay_number rs (slot_relay v.keys x)) e ∙ slot_relay_lem b i h)
          (places_sits (tablet_number ts) (tablet_relay ts) v.m l c)

      rising : (j l : ℕ) → j ≤ l → l < v.m → tablet_number ts j ≤ tablet_number ts l
      rising j l a c =
          split (ltb j l)
          (λ s. omega (arith, rises.tablets.up j l (ltb-true j l s) c))
          (λ s. let z : j ≡ l = omega (arith, ltb-false j l s) in omega (arith, ap (tablet_number ts) z))
