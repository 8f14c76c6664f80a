-- The rule as document 01 tells it is the rule told by the room that is left.
--   seat_best         the relay that takes a tablet has room, and none with room stands ahead of it
--   placement_fill    where the limits sum to no fewer than the tablets, the placement is `fill`
--   placement_none    where they sum to fewer there is none
-- Assumes nothing.
use mathlib.Core.Bool.{true, false, cond}
use mathlib.Core.Path.{◌≡◌, refl, sym, ap, ◌∙◌}
use mathlib.Core.List.{List, [], ◌∷◌, ◌++◌, append-nil, append_assoc}
use mathlib.Core.Logic.{inl, inr}
use mathlib.Core.Option.{Option, none, some}
use Prim.Native.Nat.{ℕ, ◌+◌, ◌-◌, ◌^◌, ◌≤◌, ◌<◌}
use native.Mathlib.Omega.{arith}
use borrow.Author.Tests.{ltb-true, ltb-false, eqb-true, eqb-false, eq-eqb, ne_eqb, lt-ltb}
use lib.Dec.{eqb, ltb}
use lib.ListN.{length}
use Rattle.ring.specs.Scheme.{Positions}
use Rattle.ring.specs.Clockwise.{key}
use Rattle.ring.proofs.Tests.{split, true_false}
use Rattle.ring.proofs.Order.{key_apart}
use Rattle.rule.specs.Entry.{Entry, entry, numbers, total, count, load}
use Rattle.rule.specs.Order.{order}
use Rattle.rule.specs.Rule.{has_room, seat, seat_all, placement}
use Rattle.rule.specs.Rooms.{held, rooms, choose, or_zero, less, fill}
use Rattle.rule.specs.Stability.{Rising}
use Rattle.rule.specs.Facts.{Among, Small}
use Rattle.rule.proofs.Rooms.{Best, choose_best, total_some, total_less}
use Rattle.rule.proofs.Stable.{best_one}
use Rattle.rule.proofs.Exists.{held_above}
use Rattle.rule.proofs.Orders.{first_none, first_some, first_least, order_in, in_order, order_sorted}

-- ---- entries by their numbers

pub among_above : (rs : List Entry) (low : ℕ) → Rising low (numbers rs) → (e : Entry) → Among e rs → low < e.number
unfolding numbers
among_above [] low up e i = absurd i
among_above (r ∷ rs) low up e (inl u) = omega (arith, up.0, ap (λ (z : Entry). z.number) u)
among_above (r ∷ rs) low up e (inr i) = omega (arith, up.0, among_above rs r.number up.1 e i)

-- a relay that is there holds its own limit
pub among_held : (rs : List Entry) (low : ℕ) → Rising low (numbers rs) → (e : Entry) → Among e rs → held rs e.number
    ≡ e.beside
unfolding numbers held
among_held [] low up e i = absurd i
among_held (r ∷ rs) low up e (inl u) =
    rw (u, eq-eqb r.number r.number refl)
    (omega (arith, held_above rs r.number r.number up.1 (omega arith)))
among_held (r ∷ rs) low up e (inr i) =
    rw (ne_eqb r.number e.number (λ (x : r.number ≡ e.number). omega
    (arith, among_above rs r.number up.1 e i)))
    (omega (arith, among_held rs r.number up.1 e i))

-- what holds something is there
pub held_among : (rs : List Entry) (q : ℕ) → 0 < held rs q → (e : Entry) × Among e rs × (e.number ≡ q)
unfolding held
held_among [] q h = absurd (omega arith)
held_among (r ∷ rs) q h =
    split (eqb r.number q)
    (λ s. (r, inl refl, eqb-true r.number q s))
    (λ s. let v : (e : Entry) × Among e rs × (e.number ≡ q) = held_among rs q (omega (arith, rw s at h)) in
    (v.0, inr v.1, v.2))

-- ---- the room that is left

pub held_rooms : (rs : List Entry) (low : ℕ) → Rising low (numbers rs) → (ts : List Entry) (q : ℕ)
    → held (rooms rs ts) q ≡ held rs q - load ts q
unfolding held numbers rooms
held_rooms [] low up ts q = omega arith
held_rooms (r ∷ rs) low up ts q =
    split (eqb r.number q)
    (λ s. let x : r.number ≡ q = eqb-true r.number q s in
    rw s (omega (
      arith,
      held_rooms rs r.number up.1 ts q,
      held_above rs r.number q up.1 (omega arith),
      ap
          (load ts) x,
    )))
    (λ s. rw s (omega (arith, held_rooms rs r.number up.1 ts q)))

pub rooms_none : (rs : List Entry) → rooms rs [] ≡ rs
unfolding rooms load count
rooms_none [] = refl
rooms_none (r ∷ rs) = let z : r.beside - 0 ≡ r.beside = omega arith in rw (z, rooms_none rs)

pub load_more : (ts : List Entry) (t c q : ℕ) → load (ts ++ (entry t c ∷ [])) q ≡ load ts q + cond (eqb c q) 1 0
unfolding load count
load_more [] t c q = omega arith
load_more (e ∷ ts) t c q = omega (arith, load_more ts t c q)

-- one more tablet at c leaves every relay above c as it was
rooms_other : (rs : List Entry) (low : ℕ) → Rising low (numbers rs) → (ts : List Entry) (t c : ℕ) → c ≤ low
    → rooms rs (ts ++ (entry t c ∷ [])) ≡ rooms rs ts
unfolding rooms numbers
rooms_other [] low up ts t c h = refl
rooms_other (r ∷ rs) low up ts t c h =
    let n : c ≡ r.number → ⊥ = λ x. omega (arith, up.0) in
    let z : load (ts ++ (entry t c ∷ [])) r.number ≡ load ts r.number = load_more ts t c r.number
    ∙ rw (ne_eqb c r.number n) (omega arith) in
    rw (z, rooms_other rs r.number up.1 ts t c (omega (arith, up.0)))

pub rooms_more : (rs : List Entry) (low : ℕ) → Rising low (numbers rs) → (ts : List Entry) (t c : ℕ)
    → 0 < held (rooms rs ts) c
    → rooms rs (ts ++ (entry t c ∷ [])) ≡ less c (rooms rs ts)
unfolding rooms numbers held less
rooms_more [] low up ts t c h = absurd (omega arith)
rooms_more (r ∷ rs) low up ts t c h =
    let m : load (ts ++ (entry t c ∷ [])) r.number ≡ load ts r.number + cond
    (eqb c r.number) 1 0 = load_more ts t c r.number in
    split (eqb r.number c)
    (λ s.
    let x : r.number ≡ c = eqb-true r.number c s in
    let v : 0 < r.beside - load ts r.number =
    omega (
      arith,
      rw s at h,
      held_rooms rs r.number up.1 ts c,
      held_above rs r.number c up.1
          (omega arith),
    ) in
    let z : r.beside - load (ts ++ (entry t c ∷ [])) r.number ≡ r.beside - load ts r.number - 1 =
    omega (arith, rw (eq-eqb c r.number (sym x)) at m) in
    rw (s, lt-ltb 0 (r.beside - load ts r.number) v, z, rooms_other rs r.number up.1 ts t c (omega arith)))
    (λ s.
    let n : c ≡ r.number → ⊥ = λ x. eqb-false r.number c s (sym x) in
    let z : load (ts ++ (entry t c ∷ [])) r.number ≡ load ts r.number = m
    ∙ rw (ne_eqb c r.number n) (omega arith) in
    rw (s, z, rooms_more rs r.number up.1 ts t c (omega (arith, rw s at h))))

-- ---- the seat

module _ (p : Positions) (rs : List Entry) (low : ℕ) (up : Rising low (numbers rs)) (small : Small rs) where
  room_is : (ts : List Entry) (e : Entry) → Among e rs → has_room ts e ≡ true → 0 < held (rooms rs ts) e.number
  unfolding has_room
  room_is ts e i h =
      omega (
        arith,
        ltb-true (load ts e.number) e.beside h,
        held_rooms rs low up ts
            e.number,
        among_held rs low up e i,
      )

  is_room : (ts : List Entry) (e : Entry) → Among e rs → 0 < held (rooms rs ts) e.number → has_room ts e ≡ true
  unfolding has_room
  is_room ts e i h =
      lt-ltb (load ts e.number) e.beside
      (omega (arith, held_rooms rs low up ts e.number, among_held rs low up e i))

  room_there : (ts : List Entry) (q : ℕ) → 0 < held (rooms rs ts) q → (e : Entry) × Among e rs × (e.number ≡ q)
  room_there ts q h = held_among rs q (omega (arith, held_rooms rs low up ts q))

  pub seat_best : (ts : List Entry) (t : ℕ) (e : Entry) → seat p rs ts t ≡ some e
      → Best (key p t) (rooms rs ts) e.number
  unfolding seat
  seat_best ts t e h =
      let f : Among e (order p t rs) × (has_room ts e ≡ true) = first_some (has_room ts) (order p t rs) e h in
      record {
        room = room_is ts e (order_in p t rs e f.0) f.1;
        least = λ q w.
            let x : (e : Entry) × Among e rs × (e.number ≡ q) = room_there ts q w in
            let l : key p t e.number ≤ key p t x.0.number =
            first_least (has_room ts) (key p t) (order p t rs) (order_sorted p t rs small) e h x.0
            (in_order p t rs x.0 x.1)
            (is_room ts x.0 x.1 (rw x.2 w)) in
            rw x.2 at l;
      }

  -- nobody has room
  pub seat_none : (ts : List Entry) (t : ℕ) → seat p rs ts t ≡ none → total (rooms rs ts) ≡ 0
  unfolding seat
  seat_none ts t h =
      split (ltb 0 (total (rooms rs ts)))
      (λ s.
      let v : (q : ℕ) × (0 < held (rooms rs ts) q) = total_some (rooms rs ts) (ltb-true 0 (total (rooms rs ts)) s) in
      let x : (e : Entry) × Among e rs × (e.number ≡ v.0) = room_there ts v.0 v.1 in
      let f : has_room ts x.0 ≡ false = first_none (has_room ts) (order p t rs) h x.0
      (in_order p t rs x.0 x.1) in
      absurd (true_false (sym (is_room ts x.0 x.1 (rw x.2 v.1)) ∙ f)))
      (λ s. omega (arith, ltb-false 0 (total (rooms rs ts)) s))

  small_held : (ts : List Entry) (q : ℕ) → 0 < held (rooms rs ts) q → q < 2 ^ 32
  small_held ts q h =
      let x : (e : Entry) × Among e rs × (e.number ≡ q) = room_there ts q h in omega (arith, small x.0 x.1, x.2)

  pub seat_choose : (ts : List Entry) (t : ℕ) (e : Entry) → seat p rs ts t ≡ some e → e.number
      ≡ or_zero (choose (key p t) (rooms rs ts))
  seat_choose ts t e h =
      let b : Best (key p t) (rooms rs ts) e.number = seat_best ts t e h in
      best_one (key p t) (rooms rs ts) e.number (or_zero (choose (key p t) (rooms rs ts)))
      (λ r q x y. key_apart p t r q (small_held ts r x) (small_held ts q y)) b
      (choose_best (key p t) (rooms rs ts) e.number b.room)

  -- ---- the placement

  abbrev with_one_lem : List Entry → ℕ → Entry → List Entry
  with_one_lem seated t x = seated ++ (entry t x.number ∷ [])

  taken : (seated : List Entry) (t : ℕ) (x : Entry) → seat p rs seated t ≡ some x → rooms rs (with_one_lem seated t x)
      ≡ less x.number (rooms rs seated)
  taken seated t x e = rooms_more rs low up seated t x.number (seat_best seated t x e).room

  seat_all_fill : (ts : List ℕ) (seated : List Entry) → length ts ≤ total (rooms rs seated)
      → seat_all p rs seated ts ≡ some (seated ++ fill (key p) (rooms rs seated) ts)
  unfolding seat_all fill
  seat_all_fill [] seated h = ap (λ (l : List Entry). some l) (sym (append-nil seated))
  seat_all_fill (t ∷ ts) seated h = go (seat p rs seated t) refl (λ x k. seat_all_fill ts (with_one_lem seated t x) k)
    where
      go : (s : Option Entry) → seat p rs seated t ≡ s
          → ((x : Entry) → length ts ≤ total (rooms rs (with_one_lem seated t x)) → seat_all p rs (with_one_lem seated t x) ts
          ≡ some (with_one_lem seated t x ++ fill (key p) (rooms rs (with_one_lem seated t x)) ts))
          → seat_all p rs seated (t ∷ ts) ≡ some (seated ++ fill (key p) (rooms rs seated) (t ∷ ts))
      go none e ih = absurd (omega (arith, seat_none seated t e))
      go (some x) e ih =
          let b : Best (key p t) (rooms rs seated) x.number = seat_best seated t x e in
          let r : rooms rs (with_one_lem seated t x) ≡ less x.number (rooms rs seated) = taken seated t x e in
          let k : length ts ≤ total (rooms rs (with_one_lem seated t x)) = omega
          (arith, ap total r, total_less x.number (rooms rs seated) b.room) in
          rw (e, seat_all)
          (ih x k
          ∙ ap (λ (l : List Entry). some l)
          (append_assoc seated (entry t x.number ∷ []) (fill (key p) (rooms rs (with_one_lem seated t x)) ts)
          ∙ rw (r, seat_choose seated t x e)))

  seat_all_none : (ts : List ℕ) (seated : List Entry) → total (rooms rs seated) < length ts → seat_all p rs seated ts
      ≡ none
  unfolding seat_all
  seat_all_none [] seated h = absurd (omega arith)
  seat_all_none (t ∷ ts) seated h = go (seat p rs seated t) refl (λ x k. seat_all_none ts (with_one_lem seated t x) k)
    where
      go : (s : Option Entry) → seat p rs seated t ≡ s
          → ((x : Entry) → total (rooms rs (with_one_lem seated t x)) < length ts → seat_all p rs (with_one_lem seated t x) ts
          ≡ none)
          → seat_all p rs seated (t ∷ ts) ≡ none
      go none e ih = rw (e, seat_all)
      go (some x) e ih =
          let b : Best (key p t) (rooms rs seated) x.number = seat_best seated t x e in
          rw (e, seat_all) (ih x (omega (
            arith,
            ap total (taken seated t x e),
            total_less x.number (rooms rs seated)
                b.room,
          )))

  pub placement_fill : (ts : List ℕ) → length ts ≤ total rs → placement p rs ts ≡ some (fill (key p) rs ts)
  unfolding placement
  placement_fill ts h =
      rw (rooms_none rs) at (seat_all_fill ts [] (omega (arith, ap total (rooms_none rs))))

  pub placement_none : (ts : List ℕ) → total rs < length ts → placement p rs ts ≡ none
  unfolding placement
  placement_none ts h = seat_all_none ts [] (omega (arith, ap total (rooms_none rs)))
