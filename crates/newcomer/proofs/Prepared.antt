-- The plan of an enrolment: each way out, and the one past them all.
--   bars_passed              the refusals 3, 6 and 7 do not apply
--   barred, shut_out, too_short    one of them does; 8; 9
--   turn_from                the turn can be made
--   worked                   past all refusals: who sits down where
-- Assumes nothing.
use mathlib.Core.Bool.{Bool, true, false}
use mathlib.Core.Path.{◌≡◌, refl, sym, ap, ◌∙◌}
use mathlib.Core.List.{List}
use Prim.Native.Nat.{ℕ, ◌/◌, ◌≤◌, ◌<◌}
use native.Mathlib.Omega.{arith}
use borrow.Author.Tests.{eqb-false, leb-false}
use lib.Dec.{eqb, leb}
use lib.ListN.{length}
use Rattle.ring.specs.Scheme.{positions}
use Rattle.ring.specs.declared.TabletNumber.{TabletNumber}
use Rattle.rule.specs.declared.Refusal.{Refusal}
use Rattle.rule.specs.declared.Refusal.TheVariants.{Done, LimitsTooSmall, MoveListTooShort}
use Rattle.rule.specs.declared.Call.TheVariants.{Enrol}
use Rattle.rule.specs.Entry.{has}
use Rattle.rule.specs.Refusals.{is_done, first_bar}
use Rattle.rule.specs.Rule.{Ring}
use Rattle.rule.specs.Calls.{refusal, moves, edited}
use Rattle.rule.specs.Calls as Calls
use Rattle.rule.proofs.Accepted.{bar_passed}
use Rattle.tables.specs.Table.{tablet_relay, tablet_places}
use Rattle.ring.specs.Most.{most_relays}
use Rattle.row.specs.Row.{slot_room}
use Rattle.survey.specs.declared.Survey.{Survey}
use Rattle.meaning.specs.Meaning.{tablets_in, ring_of, lent_of}
use Rattle.meaning.specs.Rising.{Rises}
use Rattle.lookup.specs.Spot.{Sought, there_in}
use Rattle.lookup.proofs.There.{spot_above}
use Rattle.write.specs.Tables.{relay_table}
use Rattle.slots.proofs.Steps.{steps_inside}
use Rattle.call_start.specs.Start.{Start}
use Rattle.call_start.proofs.Refusals.{start_rises, start_ring, number_refused, limits_refused, list_refused, all_passed}
use Rattle.call_start.proofs.Stays.{tablets_whole, tablets_zeros, relays_stay}
use Rattle.chain.specs.declared.Chain.{Chain}
use Rattle.chain.specs.Chain.{From, Chained}
use Rattle.newcomer.specs.Newcomer.{newcomer_refusal, Seeks, others_of, Worked}
use Rattle.newcomer.proofs.Outcomes.{
  number_bars,
  shut_small,
  open_enough,
  stop_inside,
  in_ring,
  home_inside,
  steps_passed,
  others_moves,
  others_above,
  first_relay,
  others_after,
  length_others,
}

-- ---- refusals

-- the refusals of the number, passed
pub record BarsPassed (x : ℕ) (there : Bool) (places m : ℕ) : Type 0 where
  pub some_number : 0 < x
  pub new : there ≡ false
  pub unused : m < places

pub bars_passed : (x : ℕ) (there : Bool) (places m : ℕ) → newcomer_refusal x there places m ≡ Done
    → BarsPassed x there places m
unfolding newcomer_refusal is_done
bars_passed x there places m e =
    let h : is_done (newcomer_refusal x there places m) ≡ true = ap is_done e in
    let a = bar_passed (eqb x 0) _ _ refl h in
    let b = bar_passed there _ _ refl a.1 in
    let c = bar_passed (leb places m) _ _ refl b.1 in
    let ne : x ≡ 0 → ⊥ = eqb-false x 0 a.0 in
    record { some_number = omega arith; new = b.0; unused = leb-false places m c.0 }

-- ---- the plan

-- the tables are right
module _ {s : ℕ} {rs ts : List ℕ} {v : Survey} (b : Start s rs ts v.n v.m v) (t : TabletNumber) where
  abbrev n : ℕ
  n = v.n

  abbrev m : ℕ
  m = v.m

  rises : Rises (positions s) rs ts n m
  rises = start_rises b

  abbrev bar : Refusal
  bar = newcomer_refusal t.0 (there_in ts m t.0) (tablet_places ts) m

  bars : (ms : List ℕ) → first_bar (Calls.wrong_numbers (lent_of s rs ts ms) (ring_of rs ts) (Enrol t)) ≡ bar
  bars ms = number_bars b t ms (there_in ts m t.0) refl

  abbrev Refused : List ℕ → Refusal → Type 0
  Refused ms why = (refusal (positions s) (lent_of s rs ts ms) (ring_of rs ts) (Enrol t) ≡ why) × (is_done why ≡ false)

  pub barred : (ms : List ℕ) (why : Refusal) → (bar ≡ why) × (is_done why ≡ false) → Refused ms why
  barred ms why w = (number_refused s rs ts ms (Enrol t) b why (bars ms ∙ w.0) w.1, w.1)

  module _ (fine : bar ≡ Done) where
    free : BarsPassed t.0 (there_in ts m t.0) (tablet_places ts) m
    free = bars_passed t.0 (there_in ts m t.0) (tablet_places ts) m fine

    new : has (tablets_in ts m) t.0 ≡ false
    new = free.new

    numbers_fine : (ms : List ℕ) → is_done (first_bar (Calls.wrong_numbers (lent_of s rs ts ms) (ring_of rs ts) (Enrol t)))
        ≡ true
    unfolding is_done
    numbers_fine ms = ap is_done (bars ms ∙ fine)

    pub shut_out : (ms : List ℕ) → ((k : ℕ) → k < n → slot_room v.keys v.room k ≡ 0) → Refused ms LimitsTooSmall
    unfolding is_done
    shut_out ms none = (limits_refused s rs ts ms (Enrol t) b (numbers_fine ms) (shut_small b t none), refl)

    module _ {h stop : ℕ} (k : Seeks (positions s) v t.0 h stop) where
      pub turn_from : From (positions s) rs ts v h stop
      turn_from = record {
        rises = rises;
        ordered = b.surveyed.ordered;
        greatest = b.surveyed.greatest;
        home = home_inside b t k;
        inside = stop_inside b t k;
      }

      module _ {z : Chain} (w : Chained rs ts v h stop t.0 z) where
        the_moves : moves (positions s) (ring_of rs ts) (Enrol t) ≡ others_of t.0 rs ts z.place z.seat z.others
        the_moves = others_moves b t k free.some_number new w

        pub too_short : (ms : List ℕ) → length ms / 3 < z.others → Refused ms MoveListTooShort
        unfolding is_done
        too_short ms l = (
          list_refused s rs ts ms (Enrol t) b (numbers_fine ms) (open_enough b t k)
              (unfold lent_of in (omega (arith, ap length the_moves, length_others t.0 rs ts z.place z.seat z.others))),
          refl,
        )

        few : z.steps < most_relays
        few = omega (arith, w.steps, steps_inside n h (in_ring b t k) stop (stop_inside b t k), rises.relays_fit.few)

        pub worked : {at : ℕ} → Sought ts m t.0 false at → (ms : List ℕ) → z.others ≤ length ms / 3
            → Worked s rs ts ms t (record { m = m; at = at; chain = z })
        worked {at} a ms l =
            record {
              refusal = all_passed s rs ts ms (Enrol t) b (numbers_fine ms) (open_enough b t k)
                  (unfold lent_of in (omega (arith, ap length the_moves, length_others t.0 rs ts z.place z.seat z.others)));
              seatable = record {
                few = omega (arith, w.few, few);
                tablets = rises.tablets_fit.there;
                climbs = record { up = rises.tablets.up };
                places = w.places;
                relays = λ i l. omega (arith, w.relays i l, rises.relays_fit.there);
                list = omega arith;
              };
              short = few;
              above = others_above b t k free.some_number new w;
              unused = free.unused;
              place = record {
                within = a.spot.within;
                below = a.spot.below;
                above = spot_above (tablet_relay ts) rises.tablets a.spot new;
              };
              whole = tablets_whole b;
              zeros = tablets_zeros b;
              passed = steps_passed b t k free.some_number new ∙ sym w.steps;
              moves = the_moves;
              relay = first_relay b t k free.some_number new w;
              tablets = others_after b t k free.some_number new w;
              relays = relays_still;
            }
          where
            relays_still : rs ≡ relay_table (length rs) (Calls.after (positions s) (ring_of rs ts) (Enrol t))
            relays_still =
                relays_stay b (Calls.after (positions s) (ring_of rs ts) (Enrol t))
                (unfold Calls.after edited in (ap (λ (g : Ring). g.relays) (start_ring b)))
