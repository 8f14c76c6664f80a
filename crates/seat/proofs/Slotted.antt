-- What a look has found tells how far each tablet is from its home.
--   home_within, home_byte, slot_within, slot_relay_lem    of tablet j the home, its relay's slot, and the relay there
--   start_slotted    so a seat can be worked out
--   ahead_steps     the relays ahead of its own are as many as the steps from its home to its relay's slot
--   passed_steps    it had passed a relay that is fewer steps from its home than its own
-- Assumes nothing.
use mathlib.Core.Bool.{Bool}
use mathlib.Core.Path.{◌≡◌, sym, ap, ◌∙◌}
use mathlib.Core.List.{List}
use Prim.Native.Nat.{ℕ, ◌%◌, ◌^◌, ◌≤◌, ◌<◌}
use native.Mathlib.Nat.{mod-eq_of_lt}
use native.Mathlib.Omega.{arith}
use borrow.Author.Tests.{ltb-true, ltb-false, eq-eqb, ne_eqb, le-leb, lt-leb}
use lib.Dec.{eqb, ltb}
use lib.ListN.{length, get_or}
use Rattle.ring.specs.Most.{most_relays}
use Rattle.ring.specs.Scheme.{positions}
use Rattle.ring.proofs.Tests.{split}
use Rattle.rule.specs.Entry.{Entry, entry, up_to}
use Rattle.rule.specs.Order.{order}
use Rattle.rule.specs.Rule.{Ring}
use Rattle.rule.specs.Calls.{ahead_of}
use Rattle.rule.specs.Walks.{had_passed}
use Rattle.tables.specs.Table.{relay_number, tablet_number, tablet_relay}
use Rattle.order.specs.Keys.{slot_relay}
use Rattle.survey.specs.declared.Survey.{Survey}
use Rattle.survey.specs.Seats.{HomeByte}
use Rattle.meaning.specs.Meaning.{relays_in, ring_of}
use Rattle.meaning.specs.Rising.{Rises}
use Rattle.meaning.proofs.Places.{length_places, beside_places}
use Rattle.meaning.proofs.Words.{tablet_number_word}
use Rattle.meaning.proofs.Right.{right_found}
use Rattle.slots.specs.Slots.{steps_to, round_number, round_limit, round}
use Rattle.slots.proofs.Steps.{steps_inside, slot_steps}
use Rattle.slots.proofs.Lists.{up_to_places}
use Rattle.slots.proofs.Round.{number_apart, order_round, sooner_steps}
use Rattle.call_start.specs.Start.{Start}
use Rattle.call_start.proofs.Refusals.{start_rises, start_ring}
use Rattle.seat.specs.Seat.{Slotted}
use Rattle.ring.proofs.Positions.{position_small}

-- a home past the last of all slots is the first
byte_steps : (n h k : ℕ) → n ≤ most_relays → h ≤ n → k < n → steps_to n (h % most_relays) k ≡ steps_to n h k
unfolding steps_to
byte_steps n h k few w c =
    split (ltb h most_relays)
    (λ s. rw (mod-eq_of_lt (ltb-true h most_relays s)))
    (λ s.
    let e : h ≡ most_relays = omega (arith, ltb-false h most_relays s) in
    let z : h % most_relays ≡ 0 = omega arith in
    rw (z, le-leb 0 k (omega arith), lt-leb h k (omega arith)) (omega arith))

module _ {s : ℕ} {rs ts : List ℕ} {n m : ℕ} {v : Survey} (b : Start s rs ts n m v) where
  rises : Rises (positions s) rs ts n m
  rises = start_rises b

  module _ (j : ℕ) (h : j < m) where
    abbrev slot_of : ℕ
    slot_of = get_or v.slot j 0

    at_home : HomeByte v.keys n ((positions s).tablet_at (tablet_number ts j)) (get_or v.home j 0)
    at_home = b.surveyed.seats.from j h

    small : (positions s).tablet_at (tablet_number ts j) < 2 ^ 32
    small = position_small s (tablet_number ts j) (tablet_number_word b.tablet_words j)

    pub home_within : get_or v.home j 0 ≤ n
    home_within = omega (arith, at_home.is, at_home.home.begins.within)

    pub home_byte : get_or v.home j 0 < most_relays
    home_byte = omega (arith, at_home.is)

    pub slot_within : get_or v.slot j 0 < n
    slot_within = b.surveyed.seats.inside j h

    pub slot_relay_lem : relay_number rs (slot_relay v.keys (get_or v.slot j 0)) ≡ tablet_relay ts j
    slot_relay_lem = ap (relay_number rs) (b.surveyed.seats.relay j h) ∙ (right_found rises j h).is

    from_home : (k : ℕ) → k < n → steps_to n (get_or v.home j 0) k ≡ steps_to n at_home.slot k
    from_home k c =
        ap (λ (x : ℕ). steps_to n x k) at_home.is
        ∙ byte_steps n at_home.slot k rises.relays_fit.few at_home.home.begins.within c

    pub passed_steps : (k : ℕ) → k < n
        → had_passed (positions s) (relay_number rs (slot_relay v.keys k))
        (entry (tablet_number ts j) (tablet_relay ts j)) ≡ ltb (steps_to n (get_or v.home j 0) k)
        (steps_to n (get_or v.home j 0) (get_or v.slot j 0))
    unfolding had_passed
    passed_steps k c =
        rw (← slot_relay_lem, from_home k c, from_home (get_or v.slot j 0) slot_within)
        (sooner_steps (positions s) rs n rises.relays_fit.few rises.relays v.keys b.surveyed.ordered
        (tablet_number ts j) small at_home.slot at_home.home k (get_or v.slot j 0) c slot_within)

    abbrev ours : Entry → Bool
    ours = λ e. eqb e.number (tablet_relay ts j)

    -- the relay so many steps from its home is its own, and none before it is
    own : round_number rs v.keys n at_home.slot (steps_to n at_home.slot slot_of) ≡ tablet_relay ts j
    unfolding round_number
    own =
        ap (λ (x : ℕ). relay_number rs (slot_relay v.keys x))
        (slot_steps n at_home.slot at_home.home.begins.within slot_of slot_within) ∙ slot_relay_lem

    up_to_own : up_to ours (round rs v.keys n at_home.slot n) ≡ round rs v.keys n at_home.slot
        (steps_to n at_home.slot slot_of)
    up_to_own =
        let d : ℕ = steps_to n at_home.slot slot_of in
        let inside : d < n = steps_inside n at_home.slot at_home.home.begins.within slot_of slot_within in
        up_to_places ours (round_number rs v.keys n at_home.slot) (round_limit rs v.keys n at_home.slot) n d
        inside
        (λ i c. ne_eqb (round_number rs v.keys n at_home.slot i) (tablet_relay ts j)
        (λ (e : round_number rs v.keys n at_home.slot i ≡ tablet_relay ts j).
        number_apart (positions s) rs n rises.relays_fit.few rises.relays v.keys b.surveyed.ordered
        (tablet_number ts j) small at_home.slot at_home.home i d c inside (e ∙ sym own)))
        (eq-eqb (round_number rs v.keys n at_home.slot d) (tablet_relay ts j) own)

    pub ahead_steps : ahead_of (positions s) (ring_of rs ts) (tablet_number ts j) ≡ steps_to n (get_or v.home j 0)
        (get_or v.slot j 0)
    unfolding ahead_of
    ahead_steps =
        ap (λ (g : Ring). ahead_of (positions s) g (tablet_number ts j)) (start_ring b)
        ∙ ap (λ (q : ℕ). length (up_to (λ e. eqb e.number q)
        (order (positions s) (tablet_number ts j) (relays_in rs n))))
        (beside_places (tablet_relay ts) rises.tablets j h)
        ∙ ap (λ (l : List Entry). length (up_to ours l))
        (order_round (positions s) rs n rises.relays_fit.few rises.relays v.keys b.surveyed.ordered
        (tablet_number ts j) small at_home.slot at_home.home)
        ∙ ap length up_to_own
        ∙ length_places (round_number rs v.keys n at_home.slot) (round_limit rs v.keys n at_home.slot)
        (steps_to n at_home.slot slot_of)
        ∙ sym (from_home slot_of slot_within)

pub start_slotted : {s : ℕ} {rs ts : List ℕ} {v : Survey} → Start s rs ts v.n v.m v → Slotted ts v
start_slotted b =
    record {
      relays_few = (start_rises b).relays_fit.few;
      tablets_fit = (start_rises b).tablets_fit;
      numbers = (start_rises b).tablets;
      homes = home_within b;
      slots = slot_within b;
    }
