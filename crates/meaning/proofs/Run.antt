-- The loops' run over the tablets is the rule's filling, whatever tablets they are, as long as the limits suffice.
--   run_first     the relay found for each tablet is the rule's
--   run_more      the first k tablets and any others behind them: those are placed in the room that the array has then
--   run_fill      so the relays found are the filling
--   run_held      what room is left, by number
--   run_room      and by place
-- Assumes nothing.
use mathlib.Core.Bool.{cond}
use mathlib.Core.Path.{◌≡◌, refl, sym, ap, ◌∙◌}
use mathlib.Core.List.{List, [], ◌∷◌, ◌++◌, append-nil, append_assoc}
use Prim.Native.Nat.{ℕ, zero, suc, ◌+◌, ◌-◌, ◌≤◌, ◌<◌}
use native.Mathlib.Omega.{arith}
use borrow.Author.Tests.{eqb-true}
use lib.Dec.{eqb}
use lib.ListN.{get_or}
use Rattle.ring.specs.Most.{most_relays}
use Rattle.ring.specs.Scheme.{Positions}
use Rattle.ring.specs.Clockwise.{key}
use Rattle.ring.proofs.Tests.{split}
use Rattle.rule.specs.Entry.{Entry, entry, numbers, total, load, count}
use Rattle.rule.specs.Rooms.{held, less, fill}
use Rattle.rule.proofs.Rooms.{held_less, total_less}
use Rattle.rule.proofs.Placements as Placing
use Rattle.tables.specs.Table.{relay_number, relay_limit, tablet_number, tablet_relay}
use Rattle.tables.specs.Placement.{relay_limits, room_after, relay_for}
use Rattle.tables.proofs.Loops.{array_at}
use Rattle.tables.proofs.Room.{less_here, less_other}
use Rattle.meaning.specs.Meaning.{places, relays_in, tablets_in}
use Rattle.meaning.specs.Ascending.{Ascending}
use Rattle.meaning.proofs.Places.{places_ext, held_places}
use Rattle.meaning.proofs.More.{numbers_append}
use Rattle.meaning.proofs.Edits.{less_places}
use Rattle.meaning.proofs.Choice.{roomed, First, first_chosen}

-- the first k tablets, each with the relay that the loops find for it
abbrev pub seated : Positions → List ℕ → List ℕ → ℕ → ℕ → List Entry
seated p rs ts n k = places (tablet_number ts) (λ j. relay_number rs (relay_for p rs ts n j)) k

module _ (p : Positions) (rs ts : List ℕ) (n : ℕ) (few : n ≤ most_relays) (a : Ascending (relay_number rs) n) where
  -- the relays with the room that the first k tablets leave
  abbrev open_now : ℕ → List Entry
  open_now k = roomed rs (room_after p rs ts n k) n

  record Run (k : ℕ) : Type 0 where
    pub left : total (open_now k) + k ≡ total (relays_in rs n)
    pub room : (q : ℕ) → held (open_now k) q + load (seated p rs ts n k) q ≡ held (relays_in rs n) q
    pub filled : (xs : List ℕ) → fill (key p) (relays_in rs n) (numbers (tablets_in ts k) ++ xs)
        ≡ seated p rs ts n k ++ fill (key p) (open_now k) xs

  at_start : open_now 0 ≡ relays_in rs n
  unfolding roomed room_after relay_limits
  at_start =
      places_ext (relay_number rs) (λ i. get_or (relay_limits rs n) i 0) (relay_number rs) (relay_limit rs) n (λ i h. refl)
      (λ i h. array_at (relay_limit rs) n i few h)

  run_start : Run 0
  unfolding places load count numbers
  run_start =
      record {
        left = omega (arith, ap total at_start);
        room = λ q. omega
            (arith, ap (λ (l : List Entry). held l q) at_start);
        filled = λ xs. rw at_start;
      }

  module _ (k : ℕ) (r : Run k) (h : k < total (relays_in rs n)) where
    abbrev t : ℕ
    t = tablet_number ts k

    abbrev c : ℕ
    c = relay_for p rs ts n k

    first : First p rs (room_after p rs ts n k) n t c
    unfolding relay_for
    first = first_chosen p rs n few a (room_after p rs ts n k) t (omega (arith, r.left))

    here : 0 < held (open_now k) (relay_number rs c)
    unfolding roomed
    here = omega (arith, held_places (λ i. get_or (room_after p rs ts n k) i 0) a c first.below, first.has_room)

    after : less (relay_number rs c) (open_now k) ≡ open_now (suc k)
    unfolding roomed room_after relay_for
    after =
        less_places n a (λ i. get_or (room_after p rs ts n k) i 0) (λ i. get_or (room_after p rs ts n (suc k)) i 0) c
        first.has_room
        (record {
          below = first.below;
          here = less_here (room_after p rs ts n k) c;
          other = λ i l d. less_other
              (room_after p rs ts n k) c i d;
        })

    -- the tablet takes one room, where there is one
    taken : (q : ℕ) → held (open_now (suc k)) q + cond (eqb (relay_number rs c) q) 1 0 ≡ held (open_now k) q
    taken q =
        let e : held (open_now (suc k)) q ≡ held (open_now k) q - cond (eqb (relay_number rs c) q) 1 0 =
        ap (λ (l : List Entry). held l q) (sym after) ∙ held_less (relay_number rs c) (open_now k) q in
        split (eqb (relay_number rs c) q)
        (λ s. rw s (omega (arith, rw s at e, here, ap (held (open_now k)) (eqb-true (relay_number rs c) q s))))
        (λ s. rw s (omega (arith, rw s at e)))

    and_others : (xs : List ℕ) → numbers (tablets_in ts (suc k)) ++ xs ≡ numbers (tablets_in ts k) ++ (t ∷ xs)
    unfolding places numbers
    and_others xs =
        ap (λ (l : List ℕ). l ++ xs) (numbers_append (tablets_in ts k) (entry t (tablet_relay ts k) ∷ []))
        ∙ append_assoc (numbers (tablets_in ts k)) (t ∷ []) xs

    run_step : Run (suc k)
    unfolding places
    run_step =
        record {
          left = omega (arith, ap total after, total_less (relay_number rs c) (open_now k) here, r.left);
          room = λ q. omega (arith, Placing.load_more (seated p rs ts n k) t (relay_number rs c) q, taken q, r.room q);
          filled = λ xs.
              ap (fill (key p) (relays_in rs n)) (and_others xs) ∙ r.filled (t ∷ xs)
              ∙ unfold fill in (rw (← first.is, after)
              (sym (append_assoc (seated p rs ts n k) (entry t (relay_number rs c) ∷ [])
              (fill (key p) (open_now (suc k)) xs))));
        }

  run : (k : ℕ) → k ≤ total (relays_in rs n) → Run k
  run zero h = run_start
  run (suc k) h = run_step k (run k (omega arith)) h

  -- ---- what it says

  pub run_first : (j : ℕ) → j < total (relays_in rs n) → First p rs (room_after p rs ts n j) n (tablet_number ts j)
      (relay_for p rs ts n j)
  run_first j h = first j (run j (omega arith)) h

  module _ (k : ℕ) (h : k ≤ total (relays_in rs n)) where
    pub run_left : total (roomed rs (room_after p rs ts n k) n) + k ≡ total (relays_in rs n)
    run_left = (run k h).left

    pub run_more : (xs : List ℕ)
        → fill (key p) (relays_in rs n) (numbers (tablets_in ts k) ++ xs) ≡ seated p rs ts n k ++ fill (key p)
        (roomed rs (room_after p rs ts n k) n) xs
    run_more = (run k h).filled

    pub run_fill : seated p rs ts n k ≡ fill (key p) (relays_in rs n) (numbers (tablets_in ts k))
    run_fill =
        sym (ap (fill (key p) (relays_in rs n)) (sym (append-nil (numbers (tablets_in ts k)))) ∙ run_more []
        ∙ unfold fill in (append-nil (seated p rs ts n k)))

    pub run_held : (q : ℕ) → held (roomed rs (room_after p rs ts n k) n) q + load (seated p rs ts n k) q
        ≡ held (relays_in rs n) q
    run_held = (run k h).room

    pub run_room : (i : ℕ) → i < n → get_or (room_after p rs ts n k) i 0 + load (seated p rs ts n k) (relay_number rs i)
        ≡ relay_limit rs i
    unfolding roomed
    run_room i l =
        omega (
          arith,
          run_held (relay_number rs i),
          held_places (λ i. get_or (room_after p rs ts n k) i 0) a i l,
          held_places (relay_limit rs) a i l,
        )
