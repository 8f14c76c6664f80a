-- The first relay with room, by place among the loops' arrays, is the rule's choice, by number among the relays with the room that they have.
--   first_chosen     where there is room it is one of the n places, has room, and its number is the choice
--   first_beyond     where there is none it is past them
-- Assumes nothing.
use mathlib.Core.Path.{◌≡◌, refl}
use mathlib.Core.List.{List, [], ◌∷◌}
use Prim.Native.Nat.{ℕ, zero, suc, ◌^◌, ◌≤◌, ◌<◌}
use native.Mathlib.Omega.{arith}
use borrow.Author.Tests.{ltb-true, ltb-false}
use lib.Dec.{ltb, eqb}
use lib.ListN.{get_or}
use Rattle.ring.specs.Most.{most_relays}
use Rattle.ring.specs.Scheme.{Positions}
use Rattle.ring.specs.Clockwise.{clockwise, key}
use Rattle.ring.proofs.Tests.{split}
use Rattle.ring.proofs.Order.{key_apart}
use Rattle.rule.specs.Entry.{Entry, total}
use Rattle.rule.specs.Rooms.{held, choose, or_zero}
use Rattle.rule.proofs.Rooms.{Best, choose_best, total_some}
use Rattle.rule.proofs.Stable.{best_one}
use Rattle.rule.proofs.Right.{held_small}
use Rattle.tables.specs.Table.{relay_number}
use Rattle.tables.specs.Placement.{nobody, relay_positions, key_from, open_key, least_key, first_with_room}
use Rattle.tables.proofs.Nearest.{least_low, key_open, key_shut, first_open}
use Rattle.meaning.specs.Meaning.{places}
use Rattle.meaning.specs.Ascending.{Ascending}
use Rattle.meaning.proofs.Places.{At, table_places, held_places, held_at}
use Rattle.meaning.proofs.Keys.{place_key, key_order}

-- the relays of the first n places, with what room an array gives them
unfoldable pub roomed : List ℕ → List ℕ → ℕ → List Entry
roomed rs room n = places (relay_number rs) (λ i. get_or room i 0) n

-- ---- the least key

module _ (position room : List ℕ) (t : ℕ) where
  -- the least key below nobody's is that of a place with room
  record Nearest (n least : ℕ) : Type 0 where
    pub at : ℕ
    pub below : at < n
    pub has_room : 0 < get_or room at 0
    pub is : least ≡ key_from t (get_or position at 0) at

  nearest : (n : ℕ) → least_key position room t n < nobody → Nearest n (least_key position room t n)
  unfolding least_key
  nearest zero h = absurd (omega arith)
  nearest (suc n) h =
      let a : ℕ = least_key position room t n in
      let b : ℕ = open_key position room t n in
      split (ltb b a)
      (λ s. split (ltb 0 (get_or room n 0))
      (λ r. let k : 0 < get_or room n 0 = ltb-true 0 (get_or room n 0) r in
      record {
        at = n;
        below = omega arith;
        has_room = k;
        is = omega
            (arith, ltb-true b a s, key_open position room t n k);
      })
      (λ r. absurd (omega (arith, ltb-true b a s, key_shut position room t n (ltb-false 0 (get_or room n 0) r)))))
      (λ s.
      let k : Nearest n a = nearest n (omega (arith, ltb-false b a s)) in
      record {
        at = k.at;
        below = omega (arith, k.below);
        has_room = k.has_room;
        is = omega
            (arith, ltb-false b a s, k.is);
      })

  key_below : (q i : ℕ) → i < most_relays → key_from t q i < nobody
  unfolding key_from clockwise
  key_below q i h = omega arith

  nearest_first : (n : ℕ) → n ≤ most_relays → (k : Nearest n (least_key position room t n))
      → first_with_room position room t n ≡ k.at
  unfolding first_with_room key_from
  nearest_first n h k = omega (arith, k.is, k.below)

held_total : (es : List Entry) (q : ℕ) → held es q ≤ total es
unfolding held total
held_total [] q = omega arith
held_total (e ∷ es) q =
    split (eqb e.number q) (λ s. rw s (omega (arith, held_total es q))) (λ s. rw s (omega (arith, held_total es q)))

-- ---- the choice

-- place c is one of n relays, has room, and has the number that the rule chooses for tablet t
pub record First (p : Positions) (rs room : List ℕ) (n t c : ℕ) : Type 0 where
  pub below : c < n
  pub has_room : 0 < get_or room c 0
  pub is : relay_number rs c ≡ or_zero (choose (key p t) (roomed rs room n))

module _ (p : Positions) (rs : List ℕ) (n : ℕ) (few : n ≤ most_relays) (a : Ascending (relay_number rs) n) (room : List ℕ)
    (t : ℕ) where
  abbrev position : List ℕ
  position = relay_positions p rs n

  abbrev from : ℕ
  from = p.tablet_at t

  abbrev first : ℕ
  first = first_with_room position room from n

  abbrev room_at : ℕ → ℕ
  room_at i = get_or room i 0

  abbrev Place : Type 0
  Place = Nearest position room from n (least_key position room from n)

  -- who has room has a place, whose key is not below the least
  record Open (q : ℕ) : Type 0 where
    pub at : ℕ
    pub below : at < n
    pub number : relay_number rs at ≡ q
    pub least : least_key position room from n ≤ place_key p rs n t at

  open_at : (q : ℕ) → 0 < held (roomed rs room n) q → Open q
  unfolding roomed
  open_at q h =
      let x : At (relay_number rs) room_at n q (held (roomed rs room n) q) = held_at room_at a q h in
      let o : 0 < get_or room x.at 0 = omega (arith, x.beside) in
      record {
        at = x.at;
        below = x.below;
        number = x.number;
        least = omega
            (arith, least_low position room from n x.at x.below, key_open position room from x.at o);
      }

  place : 0 < total (roomed rs room n) → Place
  place h =
      let v : (q : ℕ) × (0 < held (roomed rs room n) q) = total_some (roomed rs room n) h in
      let o : Open v.0 = open_at v.0 v.1 in
      nearest position room from n (omega (
        arith,
        o.least,
        key_below position room from (get_or position o.at 0)
            o.at (omega (arith, o.below)),
      ))

  place_best : (k : Place) → Best (key p t) (roomed rs room n) (relay_number rs k.at)
  unfolding roomed
  place_best k =
      record {
        room = omega (arith, held_places room_at a k.at k.below, k.has_room);
        least = λ q h.
            let o : Open q = open_at q h in
            rw (← o.number) ((key_order p rs n few a t k.at o.at k.below o.below).le.0
            (omega (arith, k.is, o.least)));
      }

  pub first_chosen : 0 < total (roomed rs room n)
      → First p rs room n t (first_with_room (relay_positions p rs n) room (p.tablet_at t) n)
  unfolding roomed
  first_chosen h =
      let k : Place = place h in
      let b : Best (key p t) (roomed rs room n) (relay_number rs k.at) = place_best k in
      let small : (q : ℕ) → 0 < held (roomed rs room n) q → q < 2 ^ 32 = held_small p (roomed rs room n)
      (table_places room_at a) in
      rw (nearest_first position room from n few k)
      (record {
        below = k.below;
        has_room = k.has_room;
        is = best_one (key p t) (roomed rs room n) (relay_number rs k.at)
            (or_zero (choose (key p t) (roomed rs room n)))
            (λ r q x y. key_apart p t r q (small r x) (small q y)) b
            (choose_best (key p t) (roomed rs room n) (relay_number rs k.at) b.room);
      })

  pub first_beyond : total (roomed rs room n) ≡ 0 → n ≤ first_with_room (relay_positions p rs n) room (p.tablet_at t) n
  unfolding roomed
  first_beyond h =
      split (ltb first n)
      (λ s.
      let k : first < n = ltb-true first n s in
      let o : 0 < get_or room first 0 = first_open position room from few refl k in
      absurd (omega (arith, held_places room_at a first k, held_total (roomed rs room n) (relay_number rs first))))
      (λ s. ltb-false first n s)
