-- The enrolment walk of document 01 ends in the rule's placement of the larger set, and the numbers of its chain rise.
-- The invariant: all but the walker sit as the rule places them, and every relay where the lower numbers leave the walker room is still ahead
-- of it. With each who sits down fewer numbers are above the walker's.
-- Assumes nothing.
use mathlib.Core.Bool.{true, false}
use mathlib.Core.Path.{◌≡◌, refl, sym, ap, ◌∙◌}
use mathlib.Core.List.{List}
use mathlib.Core.Option.{some}
use Prim.Native.Nat.{ℕ, zero, suc, ◌^◌, ◌≤◌, ◌<◌}
use native.Mathlib.Omega.{arith}
use borrow.Author.Tests.{ltb-true, ltb-false}
use lib.Dec.{ltb}
use lib.ListN.{length}
use Rattle.ring.specs.Scheme.{Positions}
use Rattle.ring.specs.Clockwise.{key}
use Rattle.ring.proofs.Tests.{split}
use Rattle.ring.proofs.Order.{key_apart}
use Rattle.rule.specs.Entry.{Entry, numbers, insert, delete, total, load, first}
use Rattle.rule.specs.Order.{order}
use Rattle.rule.specs.Rule.{Ring, has_room, placement}
use Rattle.rule.specs.Walks.{sat_down, greatest, stops, behind, walk, enrolled}
use Rattle.rule.specs.Rooms.{held, fill, choose, or_zero}
use Rattle.rule.specs.Stability.{Rising, In, Sits, lower, Fair}
use Rattle.rule.specs.Facts.{Among, Sorted, Table, Right}
use Rattle.rule.proofs.Counts.{length_insert, length_delete, above, above_fewer, count_length}
use Rattle.rule.proofs.Sets.{rising_insert}
use Rattle.rule.proofs.Exists.{left, fair_exists}
use Rattle.rule.proofs.Enrolment.{Walk, walk_start, walk_evict, walk_settle, evict_open}
use Rattle.rule.proofs.Withdrawal.{load_held}
use Rattle.rule.proofs.Orders.{first_some, first_found, first_least, order_in, in_order, order_sorted}
use Rattle.rule.proofs.Placements.{among_held, held_among, placement_fill}
use Rattle.rule.proofs.Searches.{greatest_sits, greatest_top, stops_lower, lower_stops, stops_full, behind_in, behind_sorted, in_behind}
use Rattle.rule.proofs.Right.{right_stable, held_small, length_numbers}

module _ (p : Positions) (rs : List Entry) (t : Table rs) (p₀ : List Entry) (x : ℕ) where
  record Walking (steps : ℕ) (es : List Entry) (w : ℕ) (ahead : List Entry) : Type 0 where
    pub walking : Walk (key p) rs p₀ x es w
    pub few : length es < total rs
    pub bound : above es w < steps
    pub inside : (e : Entry) → Among e ahead → Among e rs
    pub sorted : Sorted (key p w) ahead
    pub open_ahead : (e : Entry) → Among e rs → lower es e.number w < e.beside → Among e ahead

  module _ (es : List Entry) (w : ℕ) (ahead : List Entry) (steps : ℕ) (i : Walking steps es w ahead) where
    loads : (q : ℕ) → load es q ≤ held rs q
    loads q = load_held (key p) es 0 rs i.walking.up i.walking.stable q

    -- where the lower numbers leave room the walker stops
    stop_at : (e : Entry) → Among e rs → lower es e.number w < e.beside → stops es w e ≡ true
    stop_at e m h =
        lower_stops es w e (omega (arith, loads e.number, among_held rs 0 t.up e m)) i.walking.out h

    -- it stops somewhere
    stop_some : (e : Entry) × (first (stops es w) ahead ≡ some e)
    stop_some =
        let c : ℕ = or_zero (choose (key p w) (left rs es w)) in
        let f : Fair (key p) rs es w c = fair_exists (key p) rs t.up es i.few w in
        let v : (e : Entry) × Among e rs × (e.number ≡ c) = held_among rs c (omega (arith, f.room)) in
        let h : lower es v.0.number w < v.0.beside =
        omega (
          arith,
          f.room,
          ap (λ (q : ℕ). lower es q w) v.2,
          ap (held rs) v.2,
          among_held rs 0 t.up v.0
              v.1,
        ) in
        first_found (stops es w) ahead v.0 (i.open_ahead v.0 v.1 h) (stop_at v.0 v.1 h)

    module _ (e : Entry) (h : first (stops es w) ahead ≡ some e) where
      there : Among e rs
      there = i.inside e (first_some (stops es w) ahead e h).0

      held_there : held rs e.number ≡ e.beside
      held_there = among_held rs 0 t.up e there

      -- and that is the first relay of its order that the lower numbers leave it
      stop_fair : Fair (key p) rs es w e.number
      stop_fair =
          record {
            room = omega (arith, stops_lower es w e (first_some (stops es w) ahead e h).1, held_there);
            least = λ q k.
                let v : (e : Entry) × Among e rs × (e.number ≡ q) = held_among rs q (omega arith) in
                let o : lower es v.0.number w < v.0.beside =
                omega (
                  arith,
                  ap (λ (n : ℕ). lower es n w) v.2,
                  ap (held rs) v.2,
                  among_held rs 0 t.up v.0
                      v.1,
                ) in
                let l : key p w e.number ≤ key p w v.0.number =
                first_least (stops es w) (key p w) ahead i.sorted e h v.0 (i.open_ahead v.0 v.1 o)
                (stop_at v.0 v.1 o) in
                rw v.2 at l;
          }

      module _ (shut : has_room es e ≡ false) where
        abbrev g : ℕ
        g = greatest es e.number

        full_there : (load es e.number ≡ e.beside) × (w < g)
        full_there = stops_full es w e (first_some (stops es w) ahead e h).1 shut

        g_sits : Sits es g e.number
        g_sits = greatest_sits es e.number (omega (arith, full_there.1))

        abbrev es' : List Entry
        es' = insert w e.number (delete g es)

        -- the greatest number gives way and walks on: what the lower numbers leave it stands behind that relay in its order
        evicted : (k : ℕ) → steps ≡ suc k → Walking k es' g (behind e.number (order p g rs))
        evicted k s =
            record {
              walking = walk_evict (key p) rs p₀ x es w i.walking e.number g stop_fair g_sits full_there.1
                  (λ n j. greatest_top es e.number n j);
              few = omega (
                arith,
                i.few,
                length_insert w e.number (delete g es),
                length_delete g e.number es 0
                    i.walking.up g_sits,
              );
              bound = omega (
                arith,
                i.bound,
                above_fewer g e.number es 0 i.walking.up g_sits w w e.number
                    full_there.1 (omega (arith, full_there.1)),
              );
              inside = λ y j. order_in p g rs y (behind_in e.number (order p g rs) y j);
              sorted = behind_sorted (key p g) e.number (order p g rs) (order_sorted p g rs t.small);
              open_ahead = λ y j k.
                  let o : (e.number ≡ y.number → ⊥) × (key p g e.number ≤ key p g y.number)
                  × (lower es y.number w < held rs y.number) =
                  evict_open (key p) rs p₀ x es w i.walking e.number g g_sits full_there.1
                  (λ n v. greatest_top es e.number n v)
                  (omega (arith, full_there.0, held_there)) y.number (omega (arith, among_held rs 0 t.up y j)) in
                  in_behind (key p g) e (order p g rs) (order_sorted p g rs t.small) (in_order p g rs e there) y
                  (in_order p g rs y j) (apart_less y j o.1 o.0);
            }
          where
            apart_less : (y : Entry) → Among y rs → key p g e.number ≤ key p g y.number
                → (e.number ≡ y.number → ⊥) → key p g e.number < key p g y.number
            apart_less y j le ne =
                split (ltb (key p g e.number) (key p g y.number))
                (λ s. ltb-true (key p g e.number) (key p g y.number) s)
                (λ s. absurd (ne (key_apart p g e.number y.number (t.small e there) (t.small y j)
                (omega (arith, ltb-false (key p g e.number) (key p g y.number) s)))))

  -- ---- the whole walk

  abbrev goal : List Entry
  goal = fill (key p) rs (numbers (insert x 0 p₀))

  module _ (up₀ : Rising 0 (numbers (insert x 0 p₀))) where
    settled : (es : List Entry) (w : ℕ) (ahead : List Entry) (steps : ℕ) → Walking steps es w ahead → (e : Entry)
        → first (stops es w) ahead ≡ some e → has_room es e ≡ true
        → insert w e.number es ≡ goal
    unfolding has_room
    settled es w ahead steps i e h open_there =
        walk_settle (key p) rs p₀ x (λ r. r < 2 ^ 32) (λ n r q. key_apart p n r q) (held_small p rs t) es w
        i.walking up₀ e.number (stop_fair es w ahead steps i e h)
        (omega (arith, ltb-true (load es e.number) e.beside open_there, held_there es w ahead steps i e h))

    walk_ends : (steps : ℕ) (es : List Entry) (w : ℕ) (ahead : List Entry) → Walking steps es w ahead
        → ((walk steps p rs es w ahead).tablets ≡ goal)
        × ((low : ℕ) → low < w → Rising low (numbers (walk steps p rs es w ahead).chain))
    unfolding walk sat_down numbers
    walk_ends zero es w ahead i = absurd (omega (arith, i.bound))
    walk_ends (suc k) es w ahead i =
        let s : (e : Entry) × (first (stops es w) ahead ≡ some e) = stop_some es w ahead (suc k) i in
        let e : Entry = s.0 in
        split (has_room es e)
        (λ o. rw (s.1, o, walk) (settled es w ahead (suc k) i e s.1 o, λ low l. (l, tt)))
        (λ o.
        let g : ℕ = greatest es e.number in
        let next : Walking k (insert w e.number (delete g es)) g (behind e.number (order p g rs)) = evicted es w
        ahead (suc k) i e s.1 o k refl in
        let ih : ((walk k p rs (insert w e.number (delete g es)) g (behind e.number (order p g rs))).tablets
        ≡ goal)
        × ((low : ℕ) → low < g → Rising low (numbers
        (walk k p rs (insert w e.number (delete g es)) g (behind e.number (order p g rs))).chain)) =
        walk_ends k (insert w e.number (delete g es)) g (behind e.number (order p g rs)) next in
        rw (s.1, o, walk) (ih.0, λ low l. (l, ih.1 w (full_there es w ahead (suc k) i e s.1 o).1)))

-- ---- an enrolment

module _ (p : Positions) (g : Ring) (r : Right p g) (x : ℕ) (some_number : 0 < x)
    (new : In x (numbers g.tablets) → ⊥) (room : length g.tablets < total g.relays) where
  start : Walking p g.relays r.relays g.tablets x (suc (length g.tablets)) g.tablets x
      (order p x g.relays)
  unfolding above
  start =
      record {
        walking = walk_start (key p) g.relays g.tablets x (right_stable p g r) r.tablets.up some_number new;
        few = room;
        bound = omega (arith, count_length (λ e. ltb x e.number) g.tablets);
        inside = λ e i. order_in p x g.relays e i;
        sorted = order_sorted p x g.relays r.relays.small;
        open_ahead = λ e i h. in_order p x g.relays e i;
      }

  up₀ : Rising 0 (numbers (insert x 0 g.tablets))
  up₀ = rising_insert x 0 g.tablets 0 some_number r.tablets.up new

  pub enrolled_placement : placement p g.relays (numbers (insert x 0 g.tablets))
      ≡ some (enrolled p g.relays g.tablets x).tablets
  unfolding enrolled
  enrolled_placement =
      placement_fill p g.relays 0 r.relays.up r.relays.small (numbers (insert x 0 g.tablets))
      (omega (arith, length_numbers (insert x 0 g.tablets), length_insert x 0 g.tablets))
      ∙ ap (λ (l : List Entry). some l)
      (sym (walk_ends p g.relays r.relays g.tablets x up₀ (suc (length g.tablets)) g.tablets x
      (order p x g.relays) start).0)

  pub enrolled_rising : Rising 0 (numbers (enrolled p g.relays g.tablets x).chain)
  unfolding enrolled
  enrolled_rising =
      (walk_ends p g.relays r.relays g.tablets x up₀ (suc (length g.tablets)) g.tablets x
      (order p x g.relays) start).1 0 some_number
