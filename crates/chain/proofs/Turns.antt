-- The loop of a turn: at its start, over one more slot, at its end. Assumes nothing.
use mathlib.Core.Bool.{Bool, true, false, cond}
use mathlib.Core.Path.{◌≡◌, sym, ap, ◌∙◌}
use mathlib.Core.List.{List}
use Prim.Native.Nat.{ℕ, ◌+◌, ◌≤◌, ◌<◌}
use native.Mathlib.Omega.{arith}
use native.Mathlib.Numerals.{add-one}
use lib.Dec.{eqb}
use lib.ListN.{length, get_or, set}
use Rattle.ring.specs.Most.{most_relays}
use Rattle.ring.specs.Scheme.{Positions}
use Rattle.rule.specs.Entry.{entry}
use Rattle.rule.specs.Walks.{greatest}
use Rattle.rule.specs.Sweeps.{seats, turn_at, turn, newcomer}
use Rattle.rule.proofs.Turns.{turn_none, turn_last}
use Rattle.tables.specs.Table.{relay_number, tablet_places}
use Rattle.tables.proofs.Loops.{stored}
use Rattle.order.specs.Keys.{slot_relay}
use Rattle.survey.specs.declared.Survey.{Survey}
use Rattle.meaning.specs.Meaning.{places, tablets_in}
use Rattle.slots.specs.Slots.{slot_at, steps_to, round_number, round_limit, round}
use Rattle.slots.proofs.Steps.{slot_on, slot_inside, steps_inside, slot_steps, steps_slot, slot_next}
use Rattle.chain.specs.Chain.{name_at, next_slot, From, Chained}
use Rattle.chain.specs.Visit.{gives_way, Visited}
use Rattle.chain.specs.declared.Chain.{Chain}
use Rattle.chain.proofs.Arrays.{Turned, number_before, last_within, greatest_last, same_size, keeps_start, keeps_end, keeps_visited}

-- at slot k, after the steps of the chain a
pub record Going (rs ts : List ℕ) (v : Survey) (h stop x : ℕ) (a : Chain) (k : ℕ) : Type 0 where
  pub short : a.steps ≤ steps_to v.n h stop
  pub at : k ≡ slot_at v.n h a.steps
  pub few : a.others ≤ a.steps
  pub place_size : length a.place ≡ most_relays
  pub seat_size : length a.seat ≡ most_relays
  pub keeps : Turned x rs ts a.place a.seat v.n v.m a.others
      (turn (tablets_in ts v.m) (newcomer x) (round rs v.keys v.n h a.steps))

module _ {p : Positions} {rs ts : List ℕ} {v : Survey} {h stop : ℕ} (f : From p rs ts v h stop) where
  abbrev n : ℕ
  n = v.n

  abbrev m : ℕ
  m = v.m

  abbrev keys : List ℕ
  keys = v.keys

  in_ring : h ≤ n
  in_ring = omega (arith, f.home)

  pub few_relays_lem : n ≤ most_relays
  few_relays_lem = f.rises.relays_fit.few

  pub steps_few : steps_to n h stop < n
  steps_few = steps_inside n h in_ring stop f.inside

  pub going_start : {x : ℕ} (a : Chain) → a.others ≡ 0 → a.steps ≡ 0 → length a.place ≡ most_relays
      → length a.seat ≡ most_relays → Going rs ts v h stop x a h
  going_start {x} a nobody nowhere lp ls =
      record {
        short = omega arith;
        at = rw nowhere (omega (arith, slot_on n h in_ring 0 (omega (arith, f.home))));
        few = omega arith;
        place_size = lp;
        seat_size = ls;
        keeps = rw (nobody, nowhere, none_yet) (keeps_start x rs ts a.place a.seat n m);
      }
    where
      none_yet : turn (tablets_in ts m) (newcomer x) (round rs keys n h 0) ≡ newcomer x
      none_yet = unfold places in (turn_none (tablets_in ts m) (newcomer x))

  module _ {x : ℕ} {a : Chain} {k : ℕ} (g : Going rs ts v h stop x a k) where
    abbrev d : ℕ
    d = a.steps

    pub slot_small : k < n
    slot_small = omega (arith, g.at, slot_inside n h in_ring d (omega (arith, g.short, steps_few)))

    -- at the stop the steps are all done
    pub all_steps : k ≡ stop → d ≡ steps_to n h stop
    all_steps e =
        sym (steps_slot n h in_ring d (omega (arith, g.short, steps_few))) ∙ ap (steps_to n h) (sym g.at ∙ e)

    pub more_steps : (k ≡ stop → ⊥) → d < steps_to n h stop
    more_steps ne =
        let z : d ≡ steps_to n h stop → ⊥ = λ e. ne
        (g.at ∙ ap (slot_at n h) e ∙ slot_steps n h in_ring stop f.inside) in
        omega (arith, g.short)

    pub room_for_one : (k ≡ stop → ⊥) → (a.others + 1 < most_relays) × (d < most_relays)
    room_for_one ne =
        let b = more_steps ne in
        (omega (arith, b, steps_few, few_relays_lem, g.few), omega (arith, b, steps_few, few_relays_lem))

    relay_small : slot_relay keys k < n
    relay_small = f.ordered.holds.relay k slot_small

    pub last_small : (i : ℕ) → i ≡ slot_relay keys k → get_or v.last i 0 ≤ m
    last_small i e = rw (e, f.greatest) (last_within f.rises m (omega arith) (slot_relay keys k) relay_small)

    pub place_there : 0 < a.others → get_or a.place a.others 0 < tablet_places ts
    place_there z = omega (arith, g.keeps.places a.others z (omega arith), f.rises.tablets_fit.there)

    pub going_more : (k ≡ stop → ⊥) → (i w l : ℕ) → i ≡ slot_relay keys k → w ≡ name_at x ts a.place a.others
        → l ≡ get_or v.last i 0 → (z : Chain) (k' : ℕ) → Visited (gives_way ts w l) a z i l → k' ≡ next_slot n k
        → Going rs ts v h stop x z k'
    unfolding next_slot
    going_more ne i w l ei ew el z k' o ek =
        record {
          short = omega (arith, more_steps ne, o.passed);
          at = ek ∙ sym (slot_next n h in_ring d (omega (arith, more_steps ne, steps_few))
              ∙ ap (λ (z : ℕ). cond (eqb (z + 1) n) 0 (z + 1)) (sym g.at)) ∙ ap (slot_at n h) (sym o.passed);
          few = count_few (gives_way ts w l) o.count;
          place_size = same_size (gives_way ts w l) _ _ _ o.places ∙ g.place_size;
          seat_size = same_size (gives_way ts w l) _ _ _ o.seats ∙ g.seat_size;
          keeps = rw (o.passed, one_more)
              (keeps_visited x rs ts n m a z (turn (tablets_in ts m) (newcomer x) (round rs keys n h d)) g.keeps
              g.place_size g.seat_size (room_for_one ne).0 i (rw ei relay_small)
              (tablets_in ts m) (entry (round_number rs keys n h d) (round_limit rs keys n h d)) l
              (rw el (last_small i ei)) number
              (ap (greatest (tablets_in ts m)) number ∙ greatest_last f.rises i (rw ei relay_small) v.last f.greatest
              ∙ ap (λ (z : ℕ). number_before ts z) (sym el))
              w (ew ∙ sym g.keeps.walker) o);
        }
      where
        number : round_number rs keys n h d ≡ relay_number rs i
        number =
            unfold round_number in (ap (λ (z : ℕ). relay_number rs (slot_relay keys z)) (sym g.at)
            ∙ ap (relay_number rs) (sym ei))

        one_more : turn (tablets_in ts m) (newcomer x) (round rs keys n h (d + 1)) ≡ turn_at (tablets_in ts m)
            (turn (tablets_in ts m) (newcomer x) (round rs keys n h d))
            (entry (round_number rs keys n h d) (round_limit rs keys n h d))
        one_more =
            ap (λ (z : ℕ). turn (tablets_in ts m) (newcomer x) (round rs keys n h z)) (add-one d)
            ∙ unfold places in (turn_last (tablets_in ts m) (newcomer x) (round rs keys n h d)
            (entry (round_number rs keys n h d) (round_limit rs keys n h d)))

        count_few : (b : Bool) → z.others ≡ cond b (a.others + 1) a.others → z.others ≤ z.steps
        count_few true e = omega (arith, g.few, o.passed)
        count_few false e = omega (arith, g.few, o.passed)

    pub going_end : k ≡ stop → (i : ℕ) → i ≡ slot_relay keys stop
        → Chained rs ts v h stop x (record a { seat = set a.seat a.others i })
    going_end e i ei =
        record {
          steps = all_steps e;
          few = g.few;
          is = ap (λ (z : ℕ). seats (turn (tablets_in ts m) (newcomer x) (round rs keys n h d)) (relay_number rs z))
              (sym ei)
              ∙ keeps_end x rs ts a.place a.seat n m a.others (turn (tablets_in ts m) (newcomer x) (round rs keys n h d))
              g.keeps g.place_size g.seat_size c_few i stop_small;
          places = g.keeps.places;
          relays = λ j b. stored (λ y v. y ≤ a.others → v < n) a.seat a.others (omega (arith, g.seat_size, c_few))
              (λ q. stop_small) j (λ ne q. g.keeps.relays j (omega arith)) b;
        }
      where
        stop_small : i < n
        stop_small = rw ei (f.ordered.holds.relay stop f.inside)

        c_few : a.others < most_relays
        c_few = omega (arith, g.few, g.short, steps_few, few_relays_lem)
