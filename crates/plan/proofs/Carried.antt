-- A plan carried out, a tablet at a time.
--   move_room    where a tablet moves, the list has a place for it
--   carrying_none, carrying_moves, carrying_more, carrying_end, carrying_list   no tablet has its new relay; one more may get it, and gets it; all have
-- Assumes nothing.
use mathlib.Core.Bool.{Bool, false}
use mathlib.Core.List.{List, [], ◌∷◌}
use mathlib.Core.Logic.{⊎_elim}
use mathlib.Core.Path.{◌≡◌, refl, sym, ap, ap₂, ◌∙◌}
use Prim.Native.Nat.{ℕ, ◌+◌, ◌*◌, ◌≤◌, ◌<◌}
use native.Mathlib.Nat.{not-suc-le-zero, le_antisymm}
use native.Mathlib.Omega.{arith}
use borrow.Author.Tests.{ne_eqb}
use lib.Dec.{eqb}
use lib.ListN.{length, get_or, length-append}
use Rattle.ring.proofs.Tests.{split}
use Rattle.rule.specs.declared.Move.{Move}
use Rattle.tables.specs.Table.{relay_number, tablet_number, tablet_relay, places_of}
use Rattle.tables.proofs.Loops.{eq_or_ne}
use Rattle.meaning.proofs.Places.{places_ext}
use Rattle.write.specs.Tables.{listed}
use Rattle.write.proofs.Listed.{listed_none, listed_more, length_listed}
use Rattle.plan.specs.Changes.{changes, new_relay, changes_to}
use Rattle.plan.specs.Carried.{MovesOne, MovedOne, Carries, Carried}
use Rattle.plan.proofs.Changes.{move_of, changes_same, changes_other, changes_fewer}

-- ---- one tablet's two relays compared

module _ {rs ts ms : List ℕ} {i j c o n : ℕ} (eo : o ≡ tablet_relay ts j) (en : n ≡ relay_number rs i) where
  pub move_room : MovesOne rs ts ms i j c → (o ≡ n → ⊥) → 3 * (c + 1) ≤ length ms
  move_room a h = a.room (ne_eqb (tablet_relay ts j) (relay_number rs i) (λ e. h (eo ∙ e ∙ sym en)))

-- ---- all tablets

-- the first j tablets have their new relays, and the c of them that moved are listed; the others are as they were
pub record Carrying (rs relay ts ts' ms ms' : List ℕ) (j c : ℕ) : Type 0 where
  pub size : length ts' ≡ length ts
  pub numbers : (i : ℕ) → tablet_number ts' i ≡ tablet_number ts i
  pub carried : (i : ℕ) → i < j → tablet_relay ts' i ≡ new_relay rs relay i
  pub others : (i : ℕ) → j ≤ i → tablet_relay ts' i ≡ tablet_relay ts i
  pub list : ms' ≡ listed (changes_to rs relay ts j) ms
  pub count : c ≡ length (changes_to rs relay ts j)

pub carrying_none : (rs relay ts ms : List ℕ) → Carrying rs relay ts ts ms ms 0 0
unfolding changes_to changes
carrying_none rs relay ts ms = record {
  size = refl;
  numbers = λ i. refl;
  carried = λ i l. absurd (not-suc-le-zero l);
  others = λ i l. refl;
  list = listed_none ms;
  count = refl;
}

pub carrying_end : {rs relay ts ts' ms ms' : List ℕ} {m j c : ℕ} → j ≤ m → m ≤ j → Carrying rs relay ts ts' ms ms' j c
    → Carried rs relay ts ts' ms ms' m c
carrying_end {rs} {relay} {ts} {ts'} {ms} {ms'} {m} {j} l u s = record {
  tablets = record {
    size = s.size;
    entries = places_ext (tablet_number ts') (tablet_relay ts') (tablet_number ts) (new_relay rs relay) m
        (λ i h. s.numbers i) (λ i h. s.carried i (omega arith));
    number = λ i h. s.numbers i;
    beside = λ i h. s.others i (omega arith);
  };
  list = s.list ∙ ap (λ (k : ℕ). listed (changes_to rs relay ts k) ms) (le_antisymm l u);
  count = s.count ∙ ap (λ (k : ℕ). length (changes_to rs relay ts k)) (le_antisymm l u);
}

-- the list is as long as it was
pub carrying_list : {rs relay ts ts' ms ms' : List ℕ} {m j c : ℕ} → Carries rs relay ts ms m → j ≤ m
    → Carrying rs relay ts ts' ms ms' j c → length ms' ≡ length ms
unfolding changes_to
carrying_list {rs} {relay} {ts} {ms = ms} {m = m} {j = j} asked l s =
    ap length s.list
    ∙ length_listed (changes_to rs relay ts j) ms
    (omega (arith, asked.room, changes_fewer (tablet_number ts) (tablet_relay ts) (new_relay rs relay) j m l))

-- ---- tablet j

module _ {rs relay ts ts' ms ms' : List ℕ} {m j c i : ℕ} (asked : Carries rs relay ts ms m) (more : j < m)
    (s : Carrying rs relay ts ts' ms ms' j c)
    (e : i ≡ get_or relay j 0) where
  abbrev test : Bool
  test = eqb (tablet_relay ts j) (new_relay rs relay j)

  same_test : eqb (tablet_relay ts' j) (relay_number rs i) ≡ test
  unfolding new_relay
  same_test = ap₂ eqb (s.others j (omega arith)) (ap (relay_number rs) e)

  -- where it moves there is room for one more
  one_more : test ≡ false → 3 * (c + 1) ≤ length ms
  unfolding changes_to
  one_more t =
      omega (
        arith,
        s.count,
        asked.room,
        changes_fewer (tablet_number ts) (tablet_relay ts) (new_relay rs relay) (j + 1) m (omega arith),
        ap length (changes_other (tablet_number ts) (tablet_relay ts) (new_relay rs relay) j t),
        length-append (changes_to rs relay ts j) (move_of (tablet_number ts) (tablet_relay ts) (new_relay rs relay) j ∷ []),
      )

  pub carrying_moves : MovesOne rs ts' ms' i j c
  unfolding places_of
  carrying_moves = record {
    relay = rw e (asked.seated.relays j more);
    tablet = omega (arith, asked.seated.tablets.there, s.size);
    room = λ t. omega (arith, one_more (sym same_test ∙ t), carrying_list asked (omega arith) s);
  }

  module _ {ts'' ms'' : List ℕ} {c' : ℕ} (d : MovedOne rs ts' ts'' ms' ms'' i j c c') where
    next_list : (ms'' ≡ listed (changes_to rs relay ts (j + 1)) ms) × (c' ≡ length (changes_to rs relay ts (j + 1)))
    unfolding changes_to new_relay
    next_list =
        split test
        (λ t.
        let q = changes_same (tablet_number ts) (tablet_relay ts) (new_relay rs relay) j t in (
          rw (same_test, t) at d.list ∙ s.list ∙ ap (λ (l : List Move). listed l ms) (sym q),
          rw (same_test, t) at d.count ∙ s.count ∙ ap length (sym q),
        ))
        (λ t.
        let q = changes_other (tablet_number ts) (tablet_relay ts) (new_relay rs relay) j t in
        let o = move_of (tablet_number ts) (tablet_relay ts) (new_relay rs relay) j in (
          listed_more (changes_to rs relay ts j) ms o s.list s.count (one_more t)
              (rw (same_test, t) at d.list ∙ rw (s.numbers j, s.others j (omega arith), e))
              ∙ ap (λ (l : List Move). listed l ms) (sym q),
          omega (
            arith,
            rw (same_test, t) at d.count,
            s.count,
            ap length q,
            length-append (changes_to rs relay ts j)
                (o ∷ []),
          ),
        ))

    pub carrying_more : Carrying rs relay ts ts'' ms ms'' (j + 1) c'
    unfolding new_relay
    carrying_more = record {
      size = d.tablets.size ∙ s.size;
      numbers = λ k. d.tablets.numbers k ∙ s.numbers k;
      carried = λ k l.
          ⊎_elim (λ (z : k ≡ j). rw (z, ← e) d.tablets.beside)
          (λ (z : k ≡ j → ⊥). d.tablets.besides k z ∙ s.carried k (omega arith))
          (eq_or_ne k j);
      others = λ k l. d.tablets.besides k (λ (z : k ≡ j). omega arith) ∙ s.others k (omega arith);
      list = next_list.0;
      count = next_list.1;
    }
