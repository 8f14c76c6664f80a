-- From what a look and a turn found to the outcome of an enrolment.
--   number_bars            the refusals 3, 6 and 7
--   shut_small, open_enough   room is left exactly where the limits sum to more than the tablets
--   others_moves, others_after, first_relay, steps_passed   the moves, the tablets, the relay, the number passed
-- Assumes nothing.
use mathlib.Core.Bool.{Bool, true, false}
use mathlib.Core.Path.{◌≡◌, refl, sym, ap, ◌∙◌, subst}
use mathlib.Core.List.{List, [], ◌∷◌, ◌++◌}
use mathlib.Core.Option.{some}
use Prim.Native.Nat.{ℕ, zero, suc, ◌+◌, ◌-◌, ◌%◌, ◌^◌, ◌≤◌, ◌<◌}
use native.Mathlib.Omega.{arith}
use native.Mathlib.Numerals.{add-one}
use borrow.Author.Tests.{ltb-true, ltb-false, lt-ltb, le-ltb, eqb-true, eqb-false}
use lib.Dec.{eqb, ltb}
use lib.ListN.{length, get_or, length-append}
use Rattle.ring.specs.Most.{most_relays}
use Rattle.ring.specs.Scheme.{Positions, positions}
use Rattle.ring.specs.declared.TabletNumber.{TabletNumber}
use Rattle.ring.proofs.Tests.{split, true_false}
use Rattle.rule.specs.declared.Move.{Move}
use Rattle.rule.specs.declared.Call.TheVariants.{Enrol}
use Rattle.rule.specs.Entry.{Entry, entry, numbers, has, insert, total, load, first, up_to}
use Rattle.rule.specs.Order.{order}
use Rattle.rule.specs.Rule.{Ring, has_room}
use Rattle.rule.specs.Refusals.{first_bar}
use Rattle.rule.specs.Calls.{move, wrong_numbers, edited, moves, relay_of, passed}
use Rattle.rule.specs.Calls as Calls
use Rattle.rule.specs.Sweeps.{seated, seats, turn, newcomer}
use Rattle.rule.specs.Stability.{Rising, In}
use Rattle.rule.specs.Facts.{Right}
use Rattle.rule.specs.Moves.{tablets_listed}
use Rattle.rule.proofs.Counts.{length_insert}
use Rattle.rule.proofs.Demand3.{in_has}
use Rattle.rule.proofs.MoveLists as MoveLists
use Rattle.rule.proofs.Outcomes.{enrol_chain, enrol_after, enrol_moves, enrol_relay, enrol_passed}
use Rattle.tables.specs.Table.{relay_number, relay_limit, tablet_number, tablet_relay, tablet_places}
use Rattle.order.specs.Keys.{slot_relay}
use Rattle.nearest.specs.Nearest.{Nearest}
use Rattle.survey.specs.declared.Survey.{Survey}
use Rattle.row.specs.Row.{slot_room, Leads, Row}
use Rattle.row.proofs.Leads.{leads_at}
use Rattle.meaning.specs.Meaning.{places, relays_in, tablets_in, ring_of, lent_of}
use Rattle.meaning.specs.Rising.{Rises}
use Rattle.meaning.proofs.Choice.{roomed}
use Rattle.meaning.proofs.Places.{length_places}
use Rattle.meaning.proofs.More.{total_more}
use Rattle.meaning.proofs.Run.{run_left}
use Rattle.meaning.proofs.Right.{right_room}
use Rattle.slots.specs.Slots.{slot_at, steps_to, round_number, round_limit, round}
use Rattle.slots.proofs.Steps.{slot_inside, steps_inside, slot_steps, steps_slot, ahead_steps}
use Rattle.slots.proofs.Lists.{up_to_places, first_places}
use Rattle.call_start.specs.Start.{Start}
use Rattle.call_start.proofs.Refusals.{found, start_rises, start_ring}
use Rattle.chain.specs.declared.Chain.{Chain}
use Rattle.chain.specs.Chain.{link_at, chain_of, Chained}
use Rattle.newcomer.specs.Newcomer.{newcomer_refusal, Seeks, others_of}
use Rattle.newcomer.proofs.Homes.{order_home}

-- ---- totals

total_zero : (f b : ℕ → ℕ) (n : ℕ) → ((i : ℕ) → i < n → b i ≡ 0) → total (places f b n) ≡ 0
total_zero f b zero h = unfold places total in refl
total_zero f b (suc n) h =
    ap (λ (k : ℕ). total (places f b k)) (sym (add-one n)) ∙ total_more f b n
    ∙ omega (arith, total_zero f b n (λ i c. h i (omega arith)), h n (omega arith))

total_least : (f b : ℕ → ℕ) (n i : ℕ) → i < n → b i ≤ total (places f b n)
total_least f b zero i c = absurd (omega arith)
total_least f b (suc n) i c =
    let e : total (places f b (suc n)) ≡ total (places f b n) + b n = ap (λ (k : ℕ). total (places f b k))
    (sym (add-one n)) ∙ total_more f b n in
    split (eqb i n)
    (λ s. omega (arith, ap b (eqb-true i n s)))
    (λ s. let ne : i ≡ n → ⊥ = eqb-false i n s in omega (arith, total_least f b n i (omega arith)))

-- ---- the chain, newcomer first

abbrev first_new : List Move → ℕ
first_new [] = 0
first_new (m ∷ ms) = m.new.0

module _ (x : ℕ) (rs ts place seat : List ℕ) where
  pub chain_split : (c : ℕ) → chain_of x rs ts place seat (suc c) ≡ link_at x rs ts place seat 0
      ∷ others_of x rs ts place seat c
  unfolding chain_of others_of
  chain_split zero = refl
  chain_split (suc c) = ap (λ (l : List Move). l ++ (link_at x rs ts place seat (suc c) ∷ [])) (chain_split c)

  pub length_others : (c : ℕ) → length (others_of x rs ts place seat c) ≡ c
  unfolding others_of
  length_others zero = refl
  length_others (suc c) =
      length-append (others_of x rs ts place seat c) (link_at x rs ts place seat (suc c) ∷ [])
      ∙ omega (arith, length_others c)

module _ {s : ℕ} {rs ts : List ℕ} {v : Survey} (b : Start s rs ts v.n v.m v) (t : TabletNumber) where
  abbrev n : ℕ
  n = v.n

  abbrev m : ℕ
  m = v.m

  abbrev keys : List ℕ
  keys = v.keys

  abbrev room : List ℕ
  room = v.room

  abbrev p : Positions
  p = positions s

  abbrev x : ℕ
  x = t.0

  abbrev ring : Ring
  ring = found b

  rises : Rises p rs ts n m
  rises = start_rises b

  right : Right p ring
  right = subst (λ (g : Ring). Right p g) (start_ring b) rises.ring

  -- ---- refusals

  pub number_bars : (ms : List ℕ) (there : Bool) → there ≡ has (tablets_in ts m) x
      → first_bar (wrong_numbers (lent_of s rs ts ms) (ring_of rs ts) (Enrol t)) ≡ newcomer_refusal x there
      (tablet_places ts) m
  unfolding wrong_numbers newcomer_refusal lent_of
  number_bars ms there e =
      ap (λ (g : Ring). first_bar (wrong_numbers (lent_of s rs ts ms) g (Enrol t))) (start_ring b)
      ∙ rw (← e, length_places (tablet_number ts) (tablet_relay ts) m)

  left : total (roomed rs room n) + m ≡ total (relays_in rs n)
  left = rw b.surveyed.left (run_left p rs ts n rises.relays_fit.few rises.relays m rises.ruled.enough)

  after_one : length (edited (ring_of rs ts) (Enrol t)).tablets ≡ suc m
  unfolding edited
  after_one =
      ap (λ (g : Ring). length (insert x 0 g.tablets)) (start_ring b) ∙ length_insert x 0 (tablets_in ts m)
      ∙ ap suc (length_places (tablet_number ts) (tablet_relay ts) m)

  limits_are : total (edited (ring_of rs ts) (Enrol t)).relays ≡ total (relays_in rs n)
  unfolding edited
  limits_are = ap (λ (g : Ring). total g.relays) (start_ring b)

  pub shut_small : ((k : ℕ) → k < n → slot_room keys room k ≡ 0)
      → total (edited (ring_of rs ts) (Enrol t)).relays < length (edited (ring_of rs ts) (Enrol t)).tablets
  unfolding slot_room
  shut_small none = omega (arith, limits_are, after_one, left, none_left)
    where
      shut : (i : ℕ) → i < n → get_or room i 0 ≡ 0
      shut i c =
          let sl = b.surveyed.ordered.holds.every i c in
          ap (λ (z : ℕ). get_or room z 0) (sym sl.is) ∙ none sl.slot sl.below

      none_left : total (roomed rs room n) ≡ 0
      none_left = unfold roomed in (total_zero (relay_number rs) (λ i. get_or room i 0) n shut)

  module _ {h stop : ℕ} (k : Seeks p v x h stop) where
    pub stop_inside : stop < n
    stop_inside = k.leads.inside k.some_relay

    room_left : m < total (relays_in rs n)
    room_left =
        let z : get_or room (slot_relay keys stop) 0 ≤ total (roomed rs room n) =
        unfold roomed in (total_least (relay_number rs) (λ i. get_or room i 0) n (slot_relay keys stop)
        (b.surveyed.ordered.holds.relay stop stop_inside)) in
        let y : 0 < get_or room (slot_relay keys stop) 0 = unfold slot_room in k.opens in
        omega (arith, left)

    pub open_enough : length (edited (ring_of rs ts) (Enrol t)).tablets ≤ total
        (edited (ring_of rs ts) (Enrol t)).relays
    open_enough = omega (arith, limits_are, after_one, room_left)

    -- ---- the turn

    pub home_inside : h < n
    home_inside = omega (arith, k.home.inside, k.some_relay)

    pub in_ring : h ≤ n
    in_ring = omega (arith, k.home.inside)

    abbrev d : ℕ
    d = steps_to n h stop

    -- a relay of the round has room exactly where its slot has
    room_slot : (i : ℕ) → i < n → has_room (tablets_in ts m)
        (entry (round_number rs keys n h i) (round_limit rs keys n h i)) ≡ ltb 0
        (slot_room keys room (slot_at n h i))
    unfolding has_room round_number round_limit slot_room
    room_slot i c =
        let j : ℕ = slot_relay keys (slot_at n h i) in
        let inside : j < n = b.surveyed.ordered.holds.relay (slot_at n h i) (slot_inside n h in_ring i c) in
        let z : get_or room j 0 ≡ relay_limit rs j - load (tablets_in ts m) (relay_number rs j) =
        ap (λ (l : List ℕ). get_or l j 0) b.surveyed.left ∙ right_room rises m (omega arith) j inside in
        split (ltb (load (tablets_in ts m) (relay_number rs j)) (relay_limit rs j))
        (λ s. s ∙ sym (lt-ltb 0 (get_or room j 0)
        (omega (arith, ltb-true (load (tablets_in ts m) (relay_number rs j)) (relay_limit rs j) s))))
        (λ s. s ∙ sym (le-ltb 0 (get_or room j 0)
        (omega (arith, ltb-false (load (tablets_in ts m) (relay_number rs j)) (relay_limit rs j) s))))

    none_before : (i : ℕ) → i < d → has_room (tablets_in ts m)
        (entry (round_number rs keys n h i) (round_limit rs keys n h i)) ≡ false
    none_before i c =
        let few : d < n = steps_inside n h in_ring stop stop_inside in
        let ci : i < n = omega arith in
        room_slot i ci
        ∙ split (ltb 0 (slot_room keys room (slot_at n h i)))
        (λ s. absurd (omega (
          arith,
          steps_slot n h in_ring i ci,
          ahead_steps n h in_ring stop (slot_at n h i) stop_inside (slot_inside n h in_ring i ci)
              (k.leads.ahead (slot_at n h i) (slot_inside n h in_ring i ci)
              (ltb-true 0 (slot_room keys room (slot_at n h i)) s)),
        )))
        (λ s. s)

    at_stop : slot_at n h d ≡ stop
    at_stop = slot_steps n h in_ring stop stop_inside

    room_there : has_room (tablets_in ts m) (entry (round_number rs keys n h d) (round_limit rs keys n h d)) ≡ true
    room_there =
        room_slot d (steps_inside n h in_ring stop stop_inside)
        ∙ ap (λ (z : ℕ). ltb 0 (slot_room keys room z)) at_stop ∙ lt-ltb 0 (slot_room keys room stop) k.opens

    the_order : order p x (relays_in rs n) ≡ round rs keys n h n
    the_order =
        order_home p rs n rises.relays_fit.few rises.relays keys b.surveyed.ordered x k.small h k.home

    abbrev f : Entry
    f = entry (round_number rs keys n h d) (round_limit rs keys n h d)

    the_first : first (has_room (tablets_in ts m)) (order p x (relays_in rs n)) ≡ some f
    the_first =
        ap (first (has_room (tablets_in ts m))) the_order
        ∙ first_places (has_room (tablets_in ts m)) (round_number rs keys n h) (round_limit rs keys n h) n d
        (steps_inside n h in_ring stop stop_inside) none_before room_there

    the_fulls : up_to (has_room (tablets_in ts m)) (order p x (relays_in rs n)) ≡ round rs keys n h d
    the_fulls =
        ap (up_to (has_room (tablets_in ts m))) the_order
        ∙ up_to_places (has_room (tablets_in ts m)) (round_number rs keys n h) (round_limit rs keys n h) n d
        (steps_inside n h in_ring stop stop_inside) none_before room_there

    module _ (some_number : 0 < x) (new : has (tablets_in ts m) x ≡ false) where
      not_in : In x (numbers (tablets_in ts m)) → ⊥
      not_in i = true_false (sym (in_has (tablets_in ts m) x i) ∙ new)

      many : length (tablets_in ts m) < total (relays_in rs n)
      many = omega (arith, length_places (tablet_number ts) (tablet_relay ts) m, room_left)

      abbrev chain : MoveLists.Chain (tablets_in ts m) x
          (seats (turn (tablets_in ts m) (newcomer x) (up_to (has_room (tablets_in ts m)) (order p x (relays_in rs n))))
          f.number)
      chain = enrol_chain p ring right t some_number not_in many f the_first

      pub steps_passed : passed p (ring_of rs ts) (Enrol t) ≡ d
      steps_passed =
          ap (λ (g : Ring). passed p g (Enrol t)) (start_ring b)
          ∙ enrol_passed p ring right t some_number not_in many
          ∙ ap length the_fulls ∙ length_places (round_number rs keys n h) (round_limit rs keys n h) d

      module _ {z : Chain} (w : Chained rs ts v h stop x z) where
        stop_number : f.number ≡ relay_number rs (slot_relay keys stop)
        stop_number = unfold round_number in (ap (λ (q : ℕ). relay_number rs (slot_relay keys q)) at_stop)

        the_chain : move x 0 chain.seat ∷ chain.rest ≡ link_at x rs ts z.place z.seat 0
            ∷ others_of x rs ts z.place z.seat z.others
        the_chain =
            sym chain.is
            ∙ ap (λ (l : List Entry). seats (turn (tablets_in ts m) (newcomer x) l) f.number) the_fulls
            ∙ ap (λ (q : ℕ). seats (turn (tablets_in ts m) (newcomer x) (round rs keys n h q)) f.number)
            (sym w.steps)
            ∙ ap (seats (turn (tablets_in ts m) (newcomer x) (round rs keys n h z.steps))) stop_number
            ∙ w.is ∙ ap (chain_of x rs ts z.place z.seat) (add-one z.others) ∙ chain_split x rs ts z.place z.seat z.others

        the_rest : chain.rest ≡ others_of x rs ts z.place z.seat z.others
        the_rest = let q = the_chain in cc

        the_seat : chain.seat ≡ relay_number rs (get_or z.seat 0 0)
        unfolding link_at
        the_seat = ap first_new the_chain

        pub others_moves : moves p (ring_of rs ts) (Enrol t) ≡ others_of x rs ts z.place z.seat z.others
        others_moves =
            ap (λ (g : Ring). moves p g (Enrol t)) (start_ring b)
            ∙ enrol_moves p ring right t some_number not_in many f the_first ∙ the_rest

        pub others_above : Rising x (tablets_listed (others_of x rs ts z.place z.seat z.others))
        others_above = subst (λ (l : List Move). Rising x (tablets_listed l)) the_rest chain.up

        pub first_relay : relay_of p (ring_of rs ts) (Enrol t) ≡ relay_number rs (get_or z.seat 0 0)
        first_relay =
            ap (λ (g : Ring). relay_of p g (Enrol t)) (start_ring b)
            ∙ enrol_relay p ring right t some_number not_in many f the_first ∙ the_seat

        pub others_after : (Calls.after p (ring_of rs ts) (Enrol t)).tablets ≡ seated (others_of x rs ts z.place z.seat z.others)
            (insert x (relay_number rs (get_or z.seat 0 0)) (tablets_in ts m))
        others_after =
            ap (λ (g : Ring). (Calls.after p g (Enrol t)).tablets) (start_ring b)
            ∙ enrol_after p ring right t some_number not_in many f the_first
            ∙ ap (λ (l : List Move). seated l (insert x chain.seat (tablets_in ts m))) the_rest
            ∙ ap (λ (q : ℕ). seated (others_of x rs ts z.place z.seat z.others) (insert x q (tablets_in ts m))) the_seat

-- ---- the search for home and stop

module _ (s : ℕ) (v : Survey) {q h stop i : ℕ} (few : v.n ≤ most_relays) (row : Row v.keys v.room v.n 0 v.next)
    (home : Nearest v.keys v.n q h) (es : stop ≡ get_or v.next (h % most_relays) 0) (ei : i ≡ slot_relay v.keys stop) where
  leads : Leads v.keys v.room v.n h stop
  leads = subst (λ (z : ℕ). Leads v.keys v.room v.n h z) (sym es) (leads_at h few (omega (arith, home.inside)) row)

  pub seeks : {x : ℕ} → q ≡ (positions s).tablet_at x → q < 2 ^ 32 → 0 < v.n → 0 < get_or v.room i 0 → Seeks (positions s) v x h stop
  seeks eq word some_relay roomy =
      record {
        home = subst (λ (z : ℕ). Nearest v.keys v.n z h) eq home;
        leads = leads;
        small = rw (← eq) word;
        some_relay = some_relay;
        opens = unfold slot_room in (rw (← ei) roomy);
      }

  pub shut : (0 < v.n → get_or v.room i 0 ≤ 0) → (k : ℕ) → k < v.n → slot_room v.keys v.room k ≡ 0
  shut none k l =
      split (ltb 0 (slot_room v.keys v.room k))
      (λ y. absurd (omega (arith, leads.opens k l (ltb-true 0 _ y), no_room)))
      (λ y. omega (arith, ltb-false 0 _ y))
    where
      no_room : slot_room v.keys v.room stop ≤ 0
      no_room = unfold slot_room in (rw (← ei) (none (omega arith)))
