-- Places that are moved one up or one down, and what the table is at the end. f is the table before, g the table now.
--   moved_down                places that a block move has moved down
--   put_in, taken_out         after a move up an entry put in, after a move down zeros at the end
--   changed_put               what stands beside one number is changed
-- Assumes nothing.
use mathlib.Core.List.{List}
use mathlib.Core.Path.{◌≡◌, sym, ap, ap₂, ◌∙◌, subst}
use Prim.Native.Nat.{ℕ, suc, ◌+◌, ◌-◌, ◌*◌, ◌≤◌, ◌<◌}
use native.Mathlib.Numerals.{add-one}
use native.Mathlib.Omega.{arith}
use lib.ListN.{get_or}
use Rattle.std.specs.List.{CopiedTo, SameBelow, SameFrom}
use Rattle.rule.specs.Entry.{Entry, entry, insert, delete, put}
use Rattle.tables.specs.Table.{number_in, beside_in}
use Rattle.write.specs.Wrote.{Place, Climbs}
use Rattle.write.proofs.Spans.{firsts, firsts_insert, firsts_delete, firsts_put}

abbrev pub place_at : List ℕ → ℕ → Entry
place_at t i = entry (number_in t i) (beside_in t i)

-- place k is e, and every other place is as it was
pub record Changed (f g : ℕ → Entry) (k : ℕ) (e : Entry) : Type 0 where
  pub here : g k ≡ e
  pub other : (i : ℕ) → (i ≡ k → ⊥) → g i ≡ f i

-- the first m places are these entries, and every later place is as it was
pub record Wrote (f g : ℕ → Entry) (m : ℕ) (es : List Entry) : Type 0 where
  pub entries : firsts g m ≡ es
  pub later : (i : ℕ) → m ≤ i → g i ≡ f i

-- the first k places are these entries, place k is zeros, and every later place is as it was
pub record Took (f g : ℕ → Entry) (k : ℕ) (es : List Entry) : Type 0 where
  pub entries : firsts g k ≡ es
  pub zeros : g k ≡ entry 0 0
  pub later : (i : ℕ) → k < i → g i ≡ f i

-- the places from j to m stand one further on
pub record Raised (f g : ℕ → Entry) (m j : ℕ) : Type 0 where
  pub low : (i : ℕ) → i < j → g i ≡ f i
  pub up : (i : ℕ) → j ≤ i → i < m → g (suc i) ≡ f i
  pub high : (i : ℕ) → m < i → g i ≡ f i

-- the places from at to j hold what stood one further on
pub record Lowered (f g : ℕ → Entry) (at j : ℕ) : Type 0 where
  pub low : (i : ℕ) → i < at → g i ≡ f i
  pub down : (i : ℕ) → at ≤ i → i < j → g i ≡ f (suc i)
  pub high : (i : ℕ) → j ≤ i → g i ≡ f i

-- ---- moved down

module _ (t l : List ℕ) (n at : ℕ) where
  pub moved_down : at < n → CopiedTo t l (2 * at + 2) (2 * at) (2 * n - (2 * at + 2)) → SameBelow t l (2 * at)
      → SameFrom t l (2 * at + (2 * n - (2 * at + 2))) → Lowered (place_at t) (place_at l) at (n - 1)
  unfolding number_in beside_in
  moved_down h copied below from =
      record {
        low = λ i k. ap₂ entry (below (2 * i) 0 (omega arith)) (below (2 * i + 1) 0 (omega arith));
        down = λ i a b.
            ap₂ entry
            (copied (2 * i) 0 (omega arith) (omega arith)
            ∙ ap (λ k. get_or t k 0) (let e : 2 * at + 2 + (2 * i - 2 * at) ≡ 2 * suc i = omega arith in e))
            (copied (2 * i + 1) 0 (omega arith) (omega arith)
            ∙ ap (λ k. get_or t k 0) (let e : 2 * at + 2 + (2 * i + 1 - 2 * at) ≡ 2 * suc i + 1 = omega arith in e));
        high = λ i k. ap₂ entry (from (2 * i) 0 (omega arith)) (from (2 * i + 1) 0 (omega arith));
      }

-- ---- what is written after a move

module _ (f g : ℕ → Entry) (n at : ℕ) where
  -- an entry put in
  pub put_in : {h : ℕ → Entry} (x v : ℕ) → Raised f g n at → Place (λ i. (f i).number) n x at → Changed g h at (entry x v)
      → Wrote f h (n + 1) (insert x v (firsts f n))
  put_in {h = h} x v s p c =
      record {
        entries =
            ap (firsts h) (add-one n)
            ∙ firsts_insert f h at (λ i b. c.other i (λ (z : i ≡ at). omega arith) ∙ s.low i b) n x v p c.here
            (λ i a b. c.other (suc i) (λ (z : suc i ≡ at). omega arith) ∙ s.up i a b);
        later = λ i b. c.other i (λ (z : i ≡ at). omega (arith, p.within)) ∙ s.high i (omega arith);
      }

  -- zeros at the end
  pub taken_out : {h : ℕ → Entry} → Lowered f g at (n - 1) → at < n → Climbs (λ i. (f i).number) n
      → Changed g h (n - 1) (entry 0 0) → Took f h (n - 1) (delete (f at).number (firsts f n))
  taken_out {h = h} s p climb c =
      let k : ℕ = n - 1 - at in
      let a : at + k ≡ n - 1 = omega arith in
      let b : suc (at + k) ≡ n = omega arith in
      record {
        entries =
            ap (firsts h) (sym a)
            ∙ firsts_delete f h at (λ i l. c.other i (λ (z : i ≡ n - 1). omega arith) ∙ s.low i l) k
            (subst (Climbs (λ i. (f i).number)) (sym b) climb)
            (λ i l u. c.other i (λ (z : i ≡ n - 1). omega arith) ∙ s.down i l (omega arith))
            ∙ ap (λ (k : ℕ). delete (f at).number (firsts f k)) b;
        zeros = c.here;
        later = λ i l. c.other i (λ (z : i ≡ n - 1). omega arith) ∙ s.high i (omega arith);
      }

-- ---- changed

pub changed_put : (f g : ℕ → Entry) (m at v : ℕ) → at < m → Climbs (λ i. (f i).number) m
    → Changed f g at (entry (f at).number v)
    → Wrote f g m (put (f at).number v (firsts f m))
changed_put f g m at v p climb c =
    let n : ℕ = m - 1 - at in
    let b : suc (at + n) ≡ m = omega arith in
    record {
      entries =
          ap (firsts g) (sym b)
          ∙ firsts_put f g at (λ i l. c.other i (λ (z : i ≡ at). omega arith)) n
          (subst (Climbs (λ i. (f i).number)) (sym b) climb) v c.here
          (λ i l. c.other i (λ (z : i ≡ at). omega arith))
          ∙ ap (λ (k : ℕ). put (f at).number v (firsts f k)) b;
      later = λ i l. c.other i (λ (z : i ≡ at). omega arith);
    }
