-- The moves to other relays, a tablet at a time.
--   changes_same, changes_other    one tablet more: it stays, or it moves
--   changes_fewer, count_most, count_fits, count_same, count_other    how many move
--   changes_ext                    two ways to give the same relays
--   moved_changes                  they are the moves that document 01 defines
-- Assumes nothing.
use mathlib.Core.Bool.{Bool, true, false, not, ◌&&◌, cond}
use mathlib.Core.Path.{◌≡◌, refl, sym, ap, ap₂, ◌∙◌}
use mathlib.Core.List.{List, [], ◌∷◌, ◌++◌, append-nil}
use Prim.Native.Nat.{ℕ, zero, suc, ◌+◌, ◌-◌, ◌≤◌, ◌<◌}
use native.Mathlib.Numerals.{add-one}
use native.Mathlib.Omega.{arith}
use borrow.Author.Tests.{le-leb, not-true, not-false}
use lib.Dec.{eqb, leb}
use lib.ListN.{length, length-append}
use Rattle.ring.proofs.Tests.{split}
use Rattle.rule.specs.declared.Move.{Move}
use Rattle.rule.specs.Entry.{Entry, entry, has, beside_of}
use Rattle.rule.specs.Calls.{move, moved}
use Rattle.tables.specs.Table.{tablet_number, tablet_relay}
use Rattle.meaning.specs.Meaning.{places}
use Rattle.meaning.specs.Ascending.{Ascending}
use Rattle.meaning.proofs.Places.{beside_places, has_place}
use Rattle.plan.specs.Changes.{grown, changes, new_relay, changes_to}

-- ---- a tablet more

module _ (f b d : ℕ → ℕ) where
  abbrev pub move_of : ℕ → Move
  move_of j = move (f j) (b j) (d j)

  pub changes_same : (j : ℕ) → eqb (b j) (d j) ≡ true → changes f b d (j + 1) ≡ changes f b d j
  unfolding changes grown
  changes_same j s = rw (add-one, s)

  pub changes_other : (j : ℕ) → eqb (b j) (d j) ≡ false → changes f b d (j + 1) ≡ changes f b d j ++ (move_of j ∷ [])
  unfolding changes grown
  changes_other j s = rw (add-one, s)

  -- ---- how many

  changes_step : (j : ℕ) → (length (changes f b d j) ≤ length (changes f b d (j + 1)))
      × (length (changes f b d (j + 1)) ≤ length (changes f b d j) + 1)
  changes_step j =
      split (eqb (b j) (d j))
      (λ s. omega (arith, ap length (changes_same j s)))
      (λ s. omega (arith, ap length (changes_other j s), length-append (changes f b d j) (move_of j ∷ [])))

  changes_most : (j : ℕ) → length (changes f b d j) ≤ j
  unfolding changes
  changes_most zero = omega arith
  changes_most (suc j) =
      omega (arith, changes_most j, changes_step j, ap (λ (k : ℕ). length (changes f b d k)) (add-one j))

  changes_further : (j k : ℕ) → length (changes f b d j) ≤ length (changes f b d (j + k))
  changes_further j zero = let e : j + 0 ≡ j = omega arith in rw e (omega arith)
  changes_further j (suc k) =
      let e : j + suc k ≡ j + k + 1 = omega arith in rw e (omega (arith, changes_further j k, changes_step (j + k)))

  pub changes_fewer : (j m : ℕ) → j ≤ m → length (changes f b d j) ≤ length (changes f b d m)
  changes_fewer j m h = let e : j + (m - j) ≡ m = omega arith in rw e at (changes_further j (m - j))

pub count_most : (rs relay ts : List ℕ) (j : ℕ) → length (changes_to rs relay ts j) ≤ j
unfolding changes_to
count_most rs relay ts j = changes_most (tablet_number ts) (tablet_relay ts) (new_relay rs relay) j

-- as many places as tablets are enough
pub count_fits : (rs relay ts : List ℕ) (m places : ℕ) → m ≤ places
    → leb m places ≡ leb (length (changes_to rs relay ts m)) places
count_fits rs relay ts m places h =
    le-leb m places h ∙ sym (le-leb (length (changes_to rs relay ts m)) places (omega (arith, count_most rs relay ts m)))

-- how many of the first tablets, with one more that stays or moves
module _ (rs relay ts : List ℕ) (j : ℕ) where
  abbrev test : Bool
  test = eqb (tablet_relay ts j) (new_relay rs relay j)

  pub count_same : {c : ℕ} → c ≡ length (changes_to rs relay ts j) → not test ≡ false
      → c ≡ length (changes_to rs relay ts (j + 1))
  unfolding changes_to
  count_same e t =
      e ∙ ap length (sym (changes_same (tablet_number ts) (tablet_relay ts) (new_relay rs relay) j (not-false test t)))

  pub count_other : {c : ℕ} → c ≡ length (changes_to rs relay ts j) → not test ≡ true
      → c + 1 ≡ length (changes_to rs relay ts (j + 1))
  unfolding changes_to
  count_other e t =
      let f = tablet_number ts in
      let b = tablet_relay ts in
      let d = new_relay rs relay in
      omega (
        arith,
        e,
        ap length (changes_other f b d j (not-true test t)),
        length-append (changes f b d j) (move_of f b d j ∷ []),
      )

pub changes_ext : (f b d d' : ℕ → ℕ) (j : ℕ) → ((i : ℕ) → i < j → d i ≡ d' i) → changes f b d j ≡ changes f b d' j
unfolding changes
changes_ext f b d d' zero e = refl
changes_ext f b d d' (suc j) e = rw (changes_ext f b d d' j (λ i h. e i (omega arith)), e j (omega arith))

-- ---- the paper's moves

moved_append : (old k l : List Entry) → moved old (k ++ l) ≡ moved old k ++ moved old l
unfolding moved
moved_append old [] l = refl
moved_append old (e ∷ k) l =
    split (has old e.number && not (eqb (beside_of old e.number) e.beside))
    (λ s. rw (moved, s) (ap (λ (z : List Move). move e.number (beside_of old e.number) e.beside ∷ z)
    (moved_append old k l)))
    (λ s. rw (moved, s) (moved_append old k l))

module _ (f b d : ℕ → ℕ) (m : ℕ) (a : Ascending f m) where
  one_moved : (j : ℕ) → j < m → moved (places f b m) (entry (f j) (d j) ∷ []) ≡ cond (eqb (b j) (d j)) []
      (move_of f b d j ∷ [])
  unfolding moved
  one_moved j h =
      split (eqb (b j) (d j))
      (λ s. rw (moved, has_place f b m (f j) j h refl, beside_places b a j h, s))
      (λ s. rw (moved, has_place f b m (f j) j h refl, beside_places b a j h, s)
      (ap (λ (x : ℕ). move (f j) x (d j) ∷ []) (beside_places b a j h)))

  first_moved : (j : ℕ) → j ≤ m → moved (places f b m) (places f d j) ≡ changes f b d j
  unfolding places changes grown
  first_moved zero h = unfold moved in refl
  first_moved (suc j) h =
      moved_append (places f b m) (places f d j) (entry (f j) (d j) ∷ [])
      ∙ ap₂ ◌++◌ (first_moved j (omega arith)) (one_moved j h)
      ∙ split (eqb (b j) (d j)) (λ s. rw s (append-nil (changes f b d j))) (λ s. rw s)

  pub moved_changes : moved (places f b m) (places f d m) ≡ changes f b d m
  moved_changes = first_moved m (omega arith)
