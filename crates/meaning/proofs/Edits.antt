-- An entry put in, taken out and changed, place by place.
--   insert_places   a new place among the others
--   delete_places   a place closed
--   less_places     one room less at a place
-- Assumes nothing.
use mathlib.Core.Bool.{false}
use mathlib.Core.Path.{◌≡◌, refl, sym, ◌∙◌}
use mathlib.Core.List.{◌∷◌}
use Prim.Native.Nat.{ℕ, zero, suc, ◌+◌, ◌-◌, ◌≤◌, ◌<◌}
use native.Mathlib.Numerals.{add-one}
use native.Mathlib.Omega.{arith}
use borrow.Author.Tests.{eq-eqb, ne_eqb, lt-ltb, le-ltb}
use lib.Dec.{eqb}
use Rattle.rule.specs.Entry.{entry, insert, delete}
use Rattle.rule.specs.Rooms.{less}
use Rattle.meaning.specs.Meaning.{places}
use Rattle.meaning.specs.Ascending.{Ascending}
use Rattle.meaning.proofs.Places.{next, places_cons, places_ext, ascending_next}

-- the first number is not a later one
first_other : {f : ℕ → ℕ} {n : ℕ} → Ascending f n → (i : ℕ) → suc i < n → eqb (f 0) (f (suc i)) ≡ false
first_other {f} a i h =
    ne_eqb (f 0) (f (suc i)) (λ (e : f 0 ≡ f (suc i)). omega (arith, a.up 0 (suc i) (omega arith) h))

-- ---- put in

-- the table f', b' is f, b with a place opened for x and v among its n
pub record Inserted (f b f' b' : ℕ → ℕ) (n at x v : ℕ) : Type 0 where
  pub fit : at ≤ n
  pub less : (i : ℕ) → i < at → f i < x
  pub more : (i : ℕ) → at ≤ i → i < n → x < f i
  pub before : (i : ℕ) → i < at → (f' i ≡ f i) × (b' i ≡ b i)
  pub here : (f' at ≡ x) × (b' at ≡ v)
  pub behind : (i : ℕ) → at ≤ i → i < n → (f' (suc i) ≡ f i) × (b' (suc i) ≡ b i)

insert_first : (x v : ℕ) (f b : ℕ → ℕ) (n : ℕ) → ((i : ℕ) → i < n → x < f i) → insert x v (places f b n)
    ≡ entry x v ∷ places f b n
unfolding insert places
insert_first x v f b zero h = refl
insert_first x v f b (suc n) h = rw (places_cons f b n, lt-ltb x (f 0) (h 0 (omega arith)), insert)

insert_suc : (f b f' b' : ℕ → ℕ) (n at x v : ℕ) → Inserted f b f' b' n at x v → insert x v (places f b n)
    ≡ places f' b' (suc n)
unfolding insert
insert_suc f b f' b' n zero x v c =
    insert_first x v f b n (λ i h. c.more i (omega arith) h)
    ∙ rw (
      places_cons f' b' n,
      c.here.0,
      c.here.1,
      places_ext (next f') (next b') f b n (λ i h. (c.behind i (omega arith) h).0)
          (λ i h. (c.behind i (omega arith) h).1),
    )
insert_suc f b f' b' zero (suc at) x v c = absurd (omega (arith, c.fit))
insert_suc f b f' b' (suc n) (suc at) x v c =
    rw (
      places_cons f b n,
      places_cons f' b' (suc n),
      le-ltb x (f 0) (omega (arith, c.less 0 (omega arith))),
      insert,
      (c.before 0 (omega arith)).0,
      (c.before 0 (omega arith)).1,
      insert_suc (next f) (next b) (next f') (next b') n at x v further,
    )
  where
    further : Inserted (next f) (next b) (next f') (next b') n at x v
    further =
        record {
          fit = omega (arith, c.fit);
          less = λ i h. c.less (suc i) (omega arith);
          more = λ i h k. c.more (suc i) (omega arith) (omega arith);
          before = λ i h. c.before (suc i) (omega arith);
          here = c.here;
          behind = λ i h k. c.behind (suc i) (omega arith) (omega arith);
        }

pub insert_places : {f b f' b' : ℕ → ℕ} {n at x v : ℕ} → Inserted f b f' b' n at x v → insert x v (places f b n)
    ≡ places f' b' (n + 1)
insert_places {f} {b} {f'} {b'} {n} {at} {x} {v} c = rw add-one (insert_suc f b f' b' n at x v c)

-- ---- taken out

-- the table f', b' is f, b with place `at` of its n + 1 closed
pub record Deleted (f b f' b' : ℕ → ℕ) (n at : ℕ) : Type 0 where
  pub fit : at ≤ n
  pub before : (i : ℕ) → i < at → (f' i ≡ f i) × (b' i ≡ b i)
  pub behind : (i : ℕ) → at ≤ i → i < n → (f' i ≡ f (suc i)) × (b' i ≡ b (suc i))

delete_suc : (f b f' b' : ℕ → ℕ) (n at : ℕ) → Ascending f (suc n) → Deleted f b f' b' n at
    → delete (f at) (places f b (suc n)) ≡ places f' b' n
unfolding delete
delete_suc f b f' b' n zero a c =
    rw (places_cons f b n, eq-eqb (f 0) (f 0) refl, delete)
    (sym (places_ext f' b' (next f) (next b) n (λ i h. (c.behind i (omega arith) h).0)
    (λ i h. (c.behind i (omega arith) h).1)))
delete_suc f b f' b' zero (suc at) a c = absurd (omega (arith, c.fit))
delete_suc f b f' b' (suc n) (suc at) a c =
    rw (
      places_cons f b (suc n),
      places_cons f' b' n,
      first_other a at (omega (arith, c.fit)),
      delete,
      (c.before 0 (omega arith)).0,
      (c.before 0 (omega arith)).1,
      delete_suc (next f) (next b) (next f') (next b') n at (ascending_next a) further,
    )
  where
    further : Deleted (next f) (next b) (next f') (next b') n at
    further =
        record {
          fit = omega (arith, c.fit);
          before = λ i h. c.before (suc i) (omega arith);
          behind = λ i h k. c.behind (suc i) (omega arith) (omega arith);
        }

pub delete_places : {f b f' b' : ℕ → ℕ} {n at : ℕ} → Ascending f (n + 1) → Deleted f b f' b' n at
    → delete (f at) (places f b (n + 1)) ≡ places f' b' n
delete_places {f} {b} {f'} {b'} {n} {at} a c = rw add-one (delete_suc f b f' b' n at (rw add-one at a) c)

-- ---- changed

-- b' is b with v at place `at`
pub record Changed (b b' : ℕ → ℕ) (n at v : ℕ) : Type 0 where
  pub below : at < n
  pub here : b' at ≡ v
  pub other : (i : ℕ) → i < n → (i ≡ at → ⊥) → b' i ≡ b i

changed_next : {b b' : ℕ → ℕ} {n at v : ℕ} → Changed b b' (suc n) (suc at) v → Changed (next b) (next b') n at v
changed_next c =
    record {
      below = omega (arith, c.below);
      here = c.here;
      other = λ i h d. c.other (suc i) (omega arith)
          (λ x. d (omega arith));
    }

changed_first : (f b b' : ℕ → ℕ) (n v : ℕ) → Changed b b' (suc n) 0 v → entry (f 0) v ∷ places (next f) (next b) n
    ≡ places f b' (suc n)
changed_first f b b' n v c =
    rw (
      places_cons f b' n,
      c.here,
      places_ext (next f) (next b') (next f) (next b) n (λ i h. refl)
          (λ i h. c.other (suc i) (omega arith) (λ x. omega arith)),
    )

pub less_places : {f : ℕ → ℕ} (n : ℕ) → Ascending f n → (b b' : ℕ → ℕ) (at : ℕ) → 0 < b at
    → Changed b b' n at (b at - 1) → less (f at) (places f b n) ≡ places f b' n
unfolding less
less_places zero a b b' at h c = absurd (omega (arith, c.below))
less_places {f} (suc n) a b b' zero h c =
    rw (places_cons f b n, eq-eqb (f 0) (f 0) refl, lt-ltb 0 (b 0) h) (changed_first f b b' n (b 0 - 1) c)
less_places {f} (suc n) a b b' (suc at) h c =
    rw (
      places_cons f b n,
      places_cons f b' n,
      first_other a at c.below,
      less_places n (ascending_next a) (next b) (next b') at h (changed_next c),
      c.other 0 (omega arith) (λ x. omega arith),
    )
