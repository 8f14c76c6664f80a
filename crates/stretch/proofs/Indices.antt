-- What stands where in the sheet.
--   sheet_index    each tablet at its index
--   keep_below     the relays with lower numbers are those ahead of a relay's place
-- Assumes nothing.
use mathlib.Core.Bool.{Bool}
use mathlib.Core.Path.{◌≡◌, refl, ap, ap₂, ◌∙◌}
use mathlib.Core.List.{List, [], ◌∷◌, ◌++◌, append-nil}
use mathlib.Core.Logic.{⊎_elim}
use Prim.Native.Nat.{ℕ, zero, suc, ◌+◌, ◌≤◌, ◌<◌}
use native.Mathlib.Omega.{arith}
use borrow.Author.Tests.{lt-ltb, le-ltb}
use lib.Dec.{ltb}
use lib.ListN.{length, get_or, get_or-append}
use lib.Seq.{get_or-append-add}
use Rattle.ring.proofs.Tests.{split}
use Rattle.rule.specs.Entry.{Entry, entry, keep}
use Rattle.rule.specs.Sheet.{tablets_of, sheet_from}
use Rattle.tables.specs.Table.{relay_number, relay_limit, tablet_number, tablet_relay}
use Rattle.tables.proofs.Loops.{eq_or_ne}
use Rattle.meaning.specs.Meaning.{places, relays_in, tablets_in}
use Rattle.lookup.specs.Spot.{Spot}
use Rattle.loads.proofs.Counts.{load_own, load_least}
use Rattle.sheet.proofs.Lists.{sheet_length, sheet_more, tablets_at}
use Rattle.loads.proofs.StartsOfStretches.{start_of, held_by, start_next, start_least}

-- ---- each tablet at its index

module _ (rs ts : List ℕ) (m : ℕ) where
  -- the tablets of each relay from its start on
  sheet_at : (n i k : ℕ) → i < n → k < held_by rs ts m i
      → get_or (sheet_from (relays_in rs n) (tablets_in ts m)) (start_of rs ts m i + k) 0
      ≡ get_or (tablets_of (tablets_in ts m) (relay_number rs i)) k 0
  sheet_at zero i k h l = absurd (omega arith)
  sheet_at (suc n) i k h l =
      let before : List ℕ = sheet_from (relays_in rs n) (tablets_in ts m) in
      let own : List ℕ = tablets_of (tablets_in ts m) (relay_number rs n) in
      let size : length before ≡ start_of rs ts m n = sheet_length (relays_in rs n) (tablets_in ts m) in
      ap (λ (z : List ℕ). get_or z (start_of rs ts m i + k) 0)
      (sheet_more (relay_number rs) (relay_limit rs) n (tablets_in ts m))
      ∙ ⊎_elim
      (λ (e : i ≡ n). rw (e, ← size) (get_or-append-add before own k 0))
      (λ (d : i ≡ n → ⊥).
      let c : i < n = omega arith in
      get_or-append before own 0 (start_of rs ts m i + k)
      (omega (arith, start_next rs ts m i, start_least rs ts m (suc i) n (omega arith)))
      ∙ sheet_at n i k c l)
      (eq_or_ne i n)

  pub sheet_index : (n j q : ℕ) → j < m → q < n → tablet_relay ts j ≡ relay_number rs q
      → get_or (sheet_from (relays_in rs n) (tablets_in ts m)) (start_of rs ts m q + held_by rs ts j q) 0 ≡ tablet_number ts j
  sheet_index n j q h c e =
      sheet_at n q (held_by rs ts j q) c
      (omega (
        arith,
        load_own (tablet_number ts) (tablet_relay ts) j (relay_number rs q) e,
        load_least (tablet_number ts) (tablet_relay ts) (suc j) m (relay_number rs q) (omega arith),
      ))
      ∙ tablets_at (tablet_number ts) (tablet_relay ts) m j (relay_number rs q) h e

-- ---- lower numbers

keep_append : (f : Entry → Bool) (k l : List Entry) → keep f (k ++ l) ≡ keep f k ++ keep f l
unfolding keep
keep_append f [] l = refl
keep_append f (e ∷ k) l =
    split (f e) (λ s. rw (s, keep) (ap (λ (z : List Entry). e ∷ z) (keep_append f k l)))
    (λ s. rw (s, keep) (keep_append f k l))

module _ (f b : ℕ → ℕ) (x : ℕ) where
  abbrev below : Entry → Bool
  below e = ltb e.number x

  keep_next : (n : ℕ) → keep below (places f b (suc n)) ≡ keep below (places f b n) ++ keep below
      (entry (f n) (b n) ∷ [])
  unfolding places
  keep_next n = keep_append below (places f b n) (entry (f n) (b n) ∷ [])

  keep_all : (n : ℕ) → ((i : ℕ) → i < n → f i < x) → keep below (places f b n) ≡ places f b n
  unfolding places keep
  keep_all zero h = refl
  keep_all (suc n) h =
      keep_next n ∙ ap₂ ◌++◌ (keep_all n (λ i l. h i (omega arith))) (rw (lt-ltb (f n) x (h n (omega arith)), keep))

  pub keep_below : (n at : ℕ) → Spot f n x at → keep below (places f b n) ≡ places f b at
  unfolding keep
  keep_below zero at s = let e : at ≡ 0 = omega (arith, s.within) in rw e (keep_all 0 (λ i l. absurd (omega arith)))
  keep_below (suc n) at s =
      ⊎_elim
      (λ (e : at ≡ suc n). rw e (keep_all (suc n) (λ i l. s.below i (omega arith))))
      (λ (d : at ≡ suc n → ⊥).
      let w : at ≤ n = omega (arith, s.within) in
      let t : Spot f n x at = record { within = w; below = s.below; from = λ i l u. s.from i l (omega arith) } in
      keep_next n
      ∙ ap₂ ◌++◌ (keep_below n at t) (rw (le-ltb (f n) x (s.from n w (omega arith)), keep))
      ∙ append-nil (places f b at))
      (eq_or_ne at (suc n))
