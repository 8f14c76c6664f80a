-- A tablet's clockwise order is the slots from its home on, once round.
--   round_key      fewer steps, a lower key
--   order_round    the order is the round
-- Assumes nothing.
use mathlib.Core.Path.{◌≡◌, sym, ap, ◌∙◌, subst}
use mathlib.Core.List.{List}
use Prim.Native.Nat.{ℕ, ◌^◌, ◌≤◌, ◌<◌}
use native.Mathlib.Omega.{arith}
use borrow.Author.Tests.{ltb-true, ltb-false, lt-ltb, le-ltb, eqb-true, eqb-false}
use lib.Dec.{ltb, eqb}
use Rattle.ring.specs.Most.{most_relays}
use Rattle.ring.specs.Scheme.{Positions}
use Rattle.ring.specs.Clockwise.{sooner, key}
use Rattle.ring.proofs.Tests.{split}
use Rattle.ring.proofs.Order.{sooner_key}
use Rattle.rule.specs.Entry.{Entry, entry}
use Rattle.rule.specs.Order.{order}
use Rattle.rule.specs.Facts.{Among, Small}
use Rattle.rule.proofs.Orders.{order_in, in_order, order_sorted}
use Rattle.rule.proofs.Turns.{distinct_order, distinct_rising}
use Rattle.tables.specs.Table.{relay_number, relay_limit}
use Rattle.tables.specs.Placement.{relay_positions, key_from}
use Rattle.order.specs.Keys.{slot_relay, Ordered}
use Rattle.home.specs.Home.{key_at, Home}
use Rattle.row.proofs.Led.{key_of, nearer}
use Rattle.meaning.specs.Meaning.{relays_in}
use Rattle.meaning.specs.Ascending.{Ascending}
use Rattle.meaning.proofs.Places.{ascending_apart, table_places}
use Rattle.meaning.proofs.Keys.{place_key, SameOrder, key_order}
use Rattle.slots.specs.Slots.{slot_at, steps_to, round_number, round_limit, round}
use Rattle.slots.proofs.Steps.{slot_inside, steps_inside, slot_steps, steps_slot, slot_ahead}
use Rattle.slots.proofs.Lists.{sorted_ext, sorted_places, distinct_places, places_among, Indexed, indexed}

module _ (p : Positions) (rs : List ℕ) (n : ℕ) (few : n ≤ most_relays) (a : Ascending (relay_number rs) n) (keys : List ℕ)
    (o : Ordered (relay_positions p rs n) n keys)
    (t : ℕ) (ht : p.tablet_at t < 2 ^ 32) (h : ℕ) (b : Home keys n (key_at (p.tablet_at t)) h) where
  in_ring : h ≤ n
  in_ring = b.begins.within

  abbrev relay_at : ℕ → ℕ
  relay_at d = slot_relay keys (slot_at n h d)

  relay_inside : (d : ℕ) → d < n → relay_at d < n
  relay_inside d c = o.holds.relay (slot_at n h d) (slot_inside n h in_ring d c)

  -- no two steps come to one relay
  relay_apart : (d c : ℕ) → d < c → c < n → relay_at d ≡ relay_at c → ⊥
  relay_apart d c l k e =
      let s : slot_at n h d ≡ slot_at n h c = o.holds.apart.one (slot_at n h d) (slot_at n h c)
      (slot_inside n h in_ring d (omega arith)) (slot_inside n h in_ring c k) e in
      omega (arith, sym (steps_slot n h in_ring d (omega arith)) ∙ ap (steps_to n h) s ∙ steps_slot n h in_ring c k)

  pub number_apart : (d c : ℕ) → d < c → c < n → round_number rs keys n h d ≡ round_number rs keys n h c → ⊥
  unfolding round_number
  number_apart d c l k e =
      relay_apart d c l k (ascending_apart a (relay_at d) (relay_at c) (relay_inside d (omega arith))
      (relay_inside c k) e)

  pub round_key : (d c : ℕ) → d < c → c < n → key p t (round_number rs keys n h d) < key p t (round_number rs keys n h c)
  unfolding round_number key_of
  round_key d c l k =
      let id : relay_at d < n = relay_inside d (omega arith) in
      let ic : relay_at c < n = relay_inside c k in
      let le : place_key p rs n t (relay_at d) ≤ place_key p rs n t (relay_at c) =
      nearer o few ht b (slot_at n h d) (slot_at n h c) (slot_inside n h in_ring d (omega arith))
      (slot_inside n h in_ring c k) (slot_ahead n h in_ring d c (omega arith) k) in
      let same : SameOrder (place_key p rs n t (relay_at d)) (place_key p rs n t (relay_at c))
      (key p t (relay_number rs (relay_at d))) (key p t (relay_number rs (relay_at c))) =
      key_order p rs n few a t (relay_at d) (relay_at c) id ic in
      let ne : place_key p rs n t (relay_at d) ≡ place_key p rs n t (relay_at c)
      → ⊥ = λ e. relay_apart d c l k (unfold key_from in (omega (arith, few))) in
      same.lt.0 (omega arith)

  small : Small (relays_in rs n)
  small = (table_places (relay_limit rs) a).small

  -- every relay is some steps ahead
  pub there : (i : ℕ) → i < n → (d : ℕ) × (d < n) × (relay_at d ≡ i)
  there i c =
      let s = o.holds.every i c in (
        steps_to n h s.slot,
        steps_inside n h in_ring s.slot s.below,
        ap (slot_relay keys)
            (slot_steps n h in_ring s.slot s.below) ∙ s.is,
      )

  pub order_round : order p t (relays_in rs n) ≡ round rs keys n h n
  unfolding round_number round_limit
  order_round =
      sorted_ext p t (order p t (relays_in rs n)) (round rs keys n h n)
      (order_sorted p t (relays_in rs n) small)
      (sorted_places (key p t) (round_number rs keys n h) (round_limit rs keys n h) n
      (λ i l c d. let z : key p t (round_number rs keys n h i) < key p t (round_number rs keys n h l) = round_key i l c
      d in omega arith))
      (distinct_order p t (relays_in rs n) (distinct_rising (relays_in rs n) 0 (table_places (relay_limit rs) a).up))
      (distinct_places (round_number rs keys n h) (round_limit rs keys n h) n number_apart)
      (λ x i. small x (order_in p t (relays_in rs n) x i))
      (λ x i. small x (back x i))
      (λ x i. on x (order_in p t (relays_in rs n) x i))
      (λ x i. in_order p t (relays_in rs n) x (back x i))
    where
      on : (x : Entry) → Among x (relays_in rs n) → Among x (round rs keys n h n)
      on x i =
          let v : Indexed (relay_number rs) (relay_limit rs) n x = indexed (relay_number rs) (relay_limit rs) n x i in
          let w : (d : ℕ) × (d < n) × (relay_at d ≡ v.at) = there v.at v.below in
          subst (λ (z : Entry). Among z (round rs keys n h n))
          (ap (λ (k : ℕ). entry (relay_number rs k) (relay_limit rs k)) w.2 ∙ sym v.is)
          (places_among (round_number rs keys n h) (round_limit rs keys n h) n w.0 w.1)

      back : (x : Entry) → Among x (round rs keys n h n) → Among x (relays_in rs n)
      back x i =
          let v : Indexed (round_number rs keys n h) (round_limit rs keys n h) n x = indexed (round_number rs keys n h)
          (round_limit rs keys n h) n x i in
          subst (λ (z : Entry). Among z (relays_in rs n)) (sym v.is)
          (places_among (relay_number rs) (relay_limit rs) n (relay_at v.at) (relay_inside v.at v.below))

  -- a relay stands ahead of another where it is fewer steps away
  pub sooner_steps : (k l : ℕ) → k < n → l < n
      → sooner p t (relay_number rs (slot_relay keys k)) (relay_number rs (slot_relay keys l))
      ≡ ltb (steps_to n h k) (steps_to n h l)
  unfolding round_number
  sooner_steps k l ck cl =
      let ek : slot_at n h (steps_to n h k) ≡ k = slot_steps n h in_ring k ck in
      let el : slot_at n h (steps_to n h l) ≡ l = slot_steps n h in_ring l cl in
      let ik : steps_to n h k < n = steps_inside n h in_ring k ck in
      let il : steps_to n h l < n = steps_inside n h in_ring l cl in
      let sk : relay_number rs (slot_relay keys k) < 2 ^ 32 = a.small (slot_relay keys k) (o.holds.relay k ck) in
      let sl : relay_number rs (slot_relay keys l) < 2 ^ 32 = a.small (slot_relay keys l) (o.holds.relay l cl) in
      let nk : round_number rs keys n h (steps_to n h k) ≡ relay_number rs (slot_relay keys k) = ap
      (λ (z : ℕ). relay_number rs (slot_relay keys z)) ek in
      let nl : round_number rs keys n h (steps_to n h l) ≡ relay_number rs (slot_relay keys l) = ap
      (λ (z : ℕ). relay_number rs (slot_relay keys z)) el in
      sooner_key p t (relay_number rs (slot_relay keys k)) (relay_number rs (slot_relay keys l)) sk sl
      ∙ split (ltb (steps_to n h k) (steps_to n h l))
      (λ s. lt-ltb (key p t (relay_number rs (slot_relay keys k))) (key p t (relay_number rs (slot_relay keys l)))
      (omega (
        arith,
        round_key (steps_to n h k) (steps_to n h l) (ltb-true (steps_to n h k) (steps_to n h l) s) il,
        ap
            (key p t) nk,
        ap (key p t) nl,
      )) ∙ sym s)
      (λ s. le-ltb (key p t (relay_number rs (slot_relay keys k))) (key p t (relay_number rs (slot_relay keys l)))
      (no_less (ltb-false (steps_to n h k) (steps_to n h l) s) nk nl ik) ∙ sym s)
    where
      no_less : steps_to n h l ≤ steps_to n h k → round_number rs keys n h (steps_to n h k)
          ≡ relay_number rs (slot_relay keys k) → round_number rs keys n h (steps_to n h l)
          ≡ relay_number rs (slot_relay keys l) → steps_to n h k < n
          → key p t (relay_number rs (slot_relay keys l)) ≤ key p t (relay_number rs (slot_relay keys k))
      no_less le nk nl ik =
          split (eqb (steps_to n h l) (steps_to n h k))
          (λ u. omega (
            arith,
            ap (key p t) nk,
            ap (key p t) nl,
            ap (λ (z : ℕ). key p t (round_number rs keys n h z))
                (eqb-true (steps_to n h l) (steps_to n h k) u),
          ))
          (λ u. let ne : steps_to n h l ≡ steps_to n h k → ⊥ = eqb-false (steps_to n h l) (steps_to n h k) u in
          omega (arith, round_key (steps_to n h l) (steps_to n h k) (omega arith) ik, ap (key p t) nk, ap (key p t) nl))
