-- A table with zeros behind its entries is the paper's table of these entries.
--   rest_zeros                       the test that the rest is unused says so
--   zeros_behind                     and so of fewer places
--   flat_more, length_flat           one entry more; how many numbers they are
--   table_as_it_is                   a table as it stands
--   table_wrote                      one whose first places were written
--   table_taken                      one that an entry was taken out of
-- Assumes nothing.
use mathlib.Core.Bool.{true, ◌||◌}
use mathlib.Core.List.{List, [], ◌∷◌, ◌++◌, append_assoc}
use mathlib.Core.Logic.{⊎_elim}
use mathlib.Core.Path.{◌≡◌, refl, sym, ap, ap₂, ◌∙◌}
use Prim.Native.Nat.{ℕ, zero, suc, ◌+◌, ◌*◌, ◌-◌, ◌/◌, ◌%◌, ◌≤◌, ◌<◌}
use native.Mathlib.Omega.{arith}
use borrow.Author.Tests.{eqb-true, le-ltb}
use lib.Dec.{eqb, ltb}
use lib.ListN.{length, get_or, take, drop, replicate, length-drop, length-replicate, get_or-replicate, take-append-drop}
use lib.Seq.{length-take-le, take-suc, get_or-drop, ext_get_or}
use Rattle.ring.proofs.Tests.{and_left, and_right}
use Rattle.rule.specs.Entry.{Entry, entry}
use Rattle.tables.specs.Table.{is_whole, beside_in, number_in, places_of}
use Rattle.tables.specs.Shape.{unused}
use Rattle.tables.proofs.Loops.{eq_or_ne, all_at}
use Rattle.meaning.specs.Meaning.{places, entries_in, rest_unused}
use Rattle.write.specs.Tables.{flat, filled}
use Rattle.write.specs.Wrote.{WroteEntries}
use Rattle.write.specs.Places.{TookOut, Zeros}
use Rattle.place.proofs.Sets.{first_of, second_of}

-- ---- the test

pub rest_zeros : (number beside : ℕ → ℕ) (m most : ℕ) → rest_unused number beside m most ≡ true
    → Zeros number beside m most
unfolding rest_unused unused
rest_zeros number beside m most e =
    let at : (i : ℕ) → m ≤ i → i < most → unused (number i) (beside i) ≡ true =
    λ i l u. rw (le-ltb i m l) at (all_at (λ i. ltb i m || unused (number i) (beside i)) most i e u) in
    record {
      numbers = λ i l u. eqb-true (number i) 0 (and_left (eqb (number i) 0) (eqb (beside i) 0) (at i l u));
      besides = λ i l u. eqb-true (beside i) 0 (and_right (eqb (number i) 0) (eqb (beside i) 0) (at i l u));
    }

pub zeros_behind : {number beside : ℕ → ℕ} {m most : ℕ} (k : ℕ) → m ≤ k → Zeros number beside m most
    → Zeros number beside k most
zeros_behind k h z =
    record { numbers = λ i l u. z.numbers i (omega arith) u; besides = λ i l u. z.besides i (omega arith) u }

-- ---- two numbers to a place

pub flat_more : (es : List Entry) (e : Entry) → flat (es ++ (e ∷ [])) ≡ flat es ++ (e.number ∷ e.beside ∷ [])
unfolding flat
flat_more [] e = refl
flat_more (x ∷ es) e = ap (λ (l : List ℕ). x.number ∷ x.beside ∷ l) (flat_more es e)

pub length_flat : (es : List Entry) → length (flat es) ≡ 2 * length es
unfolding flat
length_flat [] = refl
length_flat (e ∷ es) = omega (arith, length_flat es)

module _ (l : List ℕ) where
  flat_take : (m : ℕ) → 2 * m ≤ length l → flat (places (first_of l) (second_of l) m) ≡ take (2 * m) l
  unfolding places flat
  flat_take zero h = refl
  flat_take (suc m) h =
      let a : 2 * suc m ≡ suc (suc (2 * m)) = omega arith in
      let b : suc (2 * m) ≡ 2 * m + 1 = omega arith in
      flat_more (places (first_of l) (second_of l) m) (entry (first_of l m) (second_of l m))
      ∙ ap (λ (k : List ℕ). k ++ (first_of l m ∷ second_of l m ∷ [])) (flat_take m (omega arith))
      ∙ sym (append_assoc (take (2 * m) l) (first_of l m ∷ []) (second_of l m ∷ []))
      ∙ sym (ap (λ (k : ℕ). take k l) a ∙ take-suc l (suc (2 * m)) 0 (omega arith)
      ∙ ap₂ (λ (k : List ℕ) (x : ℕ). k ++ (x ∷ [])) (take-suc l (2 * m) 0 (omega arith)) (ap (λ (k : ℕ). get_or l k 0) b))

  module _ (m : ℕ) (room : m ≤ length l / 2) (whole : eqb (length l % 2) 0 ≡ true)
      (zeros : Zeros (first_of l) (second_of l) m (length l / 2)) where
    zero_at : (i : ℕ) → 2 * m ≤ i → i < length l → get_or l i 0 ≡ 0
    zero_at i h k =
        let w : length l % 2 ≡ 0 = eqb-true (length l % 2) 0 whole in
        ⊎_elim
        (λ (e : i % 2 ≡ 0).
        let z : i ≡ 2 * (i / 2) = omega arith in
        ap (λ (x : ℕ). get_or l x 0) z ∙ zeros.numbers (i / 2) (omega arith) (omega arith))
        (λ (e : i % 2 ≡ 0 → ⊥).
        let z : i ≡ 2 * (i / 2) + 1 = omega arith in
        ap (λ (x : ℕ). get_or l x 0) z ∙ zeros.besides (i / 2) (omega arith) (omega arith))
        (eq_or_ne (i % 2) 0)

    pub table_filled : l ≡ filled (length l) (flat (places (first_of l) (second_of l) m))
    unfolding filled
    table_filled =
        let t : flat (places (first_of l) (second_of l) m) ≡ take (2 * m) l = flat_take m (omega arith) in
        let n : length (flat (places (first_of l) (second_of l) m)) ≡ 2 * m = ap length t
        ∙ length-take-le (2 * m) l (omega arith) in
        let d : drop (2 * m) l ≡ replicate (length l - 2 * m) 0 =
        ext_get_or 0 (drop (2 * m) l) (replicate (length l - 2 * m) 0)
        (length-drop (2 * m) l ∙ sym (length-replicate {A = ℕ} (length l - 2 * m) 0))
        (λ i h. let k : i < length l - 2 * m = omega (arith, length-drop (2 * m) l) in
        get_or-drop (2 * m) l i 0 ∙ zero_at (2 * m + i) (omega arith) (omega arith)
        ∙ sym (get_or-replicate (length l - 2 * m) i 0 0 k)) in
        sym (take-append-drop (2 * m) l) ∙ ap₂ ◌++◌ (sym t) (d ∙ ap (λ (k : ℕ). replicate (length l - k) 0) (sym n))

-- one as long as another, of these entries and zeros behind them
table_written : (before : List ℕ) {after : List ℕ} {m : ℕ} {es : List Entry} → length after ≡ length before
    → places (first_of after) (second_of after) m ≡ es
    → eqb (length before % 2) 0 ≡ true → m ≤ length before / 2 → Zeros (first_of after) (second_of after) m
    (length before / 2)
    → after ≡ filled (length before) (flat es)
table_written before {after = after} {m = m} size entries whole room zeros =
    table_filled after m (rw size room) (rw size whole) (rw size zeros)
    ∙ ap₂ (λ (n : ℕ) (l : List Entry). filled n (flat l)) size entries

-- ---- one taken out

taken_zeros : {number_at beside_at : List ℕ → ℕ → ℕ} {before after : List ℕ} {m : ℕ} {es : List Entry} {most : ℕ} → 0 < m
    → Zeros (number_at before) (beside_at before) m most → TookOut number_at beside_at before after (m - 1) es
    → Zeros (number_at after) (beside_at after) (m - 1) most
taken_zeros {number_at = number_at} {beside_at = beside_at} {after = after} {m = m} h z t =
    record {
      numbers = λ i l u.
          ⊎_elim (λ (e : i ≡ m - 1). ap (number_at after) e ∙ t.number)
          (λ (d : i ≡ m - 1 → ⊥). let k : m - 1 < i = omega arith in t.numbers i k ∙ z.numbers i (omega arith) u)
          (eq_or_ne i (m - 1));
      besides = λ i l u.
          ⊎_elim (λ (e : i ≡ m - 1). ap (beside_at after) e ∙ t.beside)
          (λ (d : i ≡ m - 1 → ⊥). let k : m - 1 < i = omega arith in t.besides i k ∙ z.besides i (omega arith) u)
          (eq_or_ne i (m - 1));
    }

-- ---- a lent table

pub table_as_it_is : (t : List ℕ) (n : ℕ) → is_whole t ≡ true → n ≤ places_of t
    → Zeros (number_in t) (beside_in t) n (places_of t)
    → t ≡ filled (length t) (flat (entries_in t n))
unfolding places_of number_in beside_in is_whole
table_as_it_is t n whole room zeros = table_filled t n room whole zeros

module _ {before after : List ℕ} {n : ℕ} {es : List Entry} where
  pub table_wrote : WroteEntries before after n es → is_whole before ≡ true → n ≤ places_of before
      → Zeros (number_in before) (beside_in before) n (places_of before) → after ≡ filled (length before) (flat es)
  unfolding places_of number_in beside_in is_whole
  table_wrote w whole room z =
      table_written before w.size w.entries whole room
      (record {
        numbers = λ i l u. w.number i l ∙ z.numbers i l u;
        besides = λ i l u. w.beside i l
            ∙ z.besides i l u;
      })

  pub table_taken : TookOut number_in beside_in before after (n - 1) es → is_whole before ≡ true → 0 < n
      → n ≤ places_of before
      → Zeros (number_in before) (beside_in before) n (places_of before) → after ≡ filled (length before) (flat es)
  unfolding places_of number_in beside_in is_whole
  table_taken t whole h room z = table_written before t.size t.entries whole (omega arith) (taken_zeros h z t)
