-- The first places of a table as entries.
--   places_cons, places_ext          the first place apart; two tables with the same places
--   length_places                    as many entries as places
--   sits_places, places_sits         who sits there has a place
--   table_places, places_table       the numbers make a table exactly where they ascend
--   held_places, beside_places       what stands beside a number is what stands at its place
--   has_place, has_none, has_at      whether a number is there
--   limits_places, places_limits     limits within bounds, place by place
-- Assumes nothing.
use mathlib.Core.Bool.{true, false, ◌&&◌}
use mathlib.Core.Path.{◌≡◌, refl, sym, ap, ◌∙◌}
use mathlib.Core.List.{List, [], ◌∷◌, ◌++◌}
use mathlib.Core.Logic.{inl, inr, ⊎_elim}
use Prim.Native.Nat.{ℕ, zero, suc, ◌≤◌, ◌<◌}
use native.Mathlib.Omega.{arith}
use borrow.Author.Tests.{ltb-true, ltb-false, leb-true, eqb-true, eqb-false, le-leb}
use lib.Dec.{eqb, ltb, leb}
use lib.ListN.{length, length-append}
use Rattle.ring.specs.Most.{most_limit}
use Rattle.ring.proofs.Tests.{split, and_left, and_right}
use Rattle.rule.specs.Entry.{Entry, entry, numbers, has, beside_of}
use Rattle.rule.specs.Rule.{limits_fit}
use Rattle.rule.specs.Rooms.{held}
use Rattle.rule.specs.Stability.{Rising, Sits}
use Rattle.rule.specs.Facts.{Among, Table}
use Rattle.rule.proofs.Sets.{in_sits, sits_in}
use Rattle.rule.proofs.Counts.{sits_above}
use Rattle.rule.proofs.Searches.{sits_among, among_sits}
use Rattle.rule.proofs.Placements.{among_held, held_among}
use Rattle.rule.proofs.Demand3.{has_in, in_has, beside_held}
use Rattle.meaning.specs.Meaning.{places}
use Rattle.meaning.specs.Ascending.{Ascending}

-- without the first place
abbrev pub next : (ℕ → ℕ) → ℕ → ℕ
next f i = f (suc i)

pub places_cons : (f b : ℕ → ℕ) (n : ℕ) → places f b (suc n) ≡ entry (f 0) (b 0) ∷ places (next f) (next b) n
unfolding places
places_cons f b zero = refl
places_cons f b (suc n) = ap (λ (l : List Entry). l ++ (entry (f (suc n)) (b (suc n)) ∷ [])) (places_cons f b n)

pub places_ext : (f b f' b' : ℕ → ℕ) (n : ℕ) → ((i : ℕ) → i < n → f i ≡ f' i) → ((i : ℕ) → i < n → b i ≡ b' i)
    → places f b n ≡ places f' b' n
unfolding places
places_ext f b f' b' zero d e = refl
places_ext f b f' b' (suc n) d e =
    rw (
      places_ext f b f' b' n (λ i h. d i (omega arith)) (λ i h. e i (omega arith)),
      d n (omega arith),
      e n
          (omega arith),
    )

pub length_places : (f b : ℕ → ℕ) (n : ℕ) → length (places f b n) ≡ n
unfolding places
length_places f b zero = refl
length_places f b (suc n) = simp length-append (omega (arith, length_places f b n))

-- ---- who sits there

pub places_sits : (f b : ℕ → ℕ) (n i : ℕ) → i < n → Sits (places f b n) (f i) (b i)
places_sits f b zero i h = absurd (omega arith)
places_sits f b (suc n) zero h = rw (places_cons f b n) (inl (refl, refl))
places_sits f b (suc n) (suc i) h = rw (places_cons f b n) (inr (places_sits (next f) (next b) n i (omega arith)))

-- a place with x, and v beside it
pub record At (f b : ℕ → ℕ) (n x v : ℕ) : Type 0 where
  pub at : ℕ
  pub below : at < n
  pub number : f at ≡ x
  pub beside : b at ≡ v

pub sits_places : (f b : ℕ → ℕ) (n x v : ℕ) → Sits (places f b n) x v → At f b n x v
unfolding places
sits_places f b zero x v i = absurd i
sits_places f b (suc n) x v i =
    ⊎_elim
    (λ u. record { at = 0; below = omega arith; number = u.0; beside = u.1 })
    (λ j. let a : At (next f) (next b) n x v = sits_places (next f) (next b) n x v j in
    record { at = suc a.at; below = omega (arith, a.below); number = a.number; beside = a.beside })
    (rw (places_cons f b n) at i)

-- ---- rising numbers

pub ascending_next : {f : ℕ → ℕ} {n : ℕ} → Ascending f (suc n) → Ascending (next f) n
ascending_next a =
    record {
      up = λ i l h k. a.up (suc i) (suc l) (omega arith) (omega arith);
      numbered = λ i h. a.numbered (suc i)
          (omega arith);
      small = λ i h. a.small (suc i) (omega arith);
    }

pub ascending_fewer : {f : ℕ → ℕ} {n : ℕ} (k : ℕ) → k ≤ n → Ascending f n → Ascending f k
ascending_fewer k h a =
    record {
      up = λ i l u v. a.up i l u (omega arith);
      numbered = λ i u. a.numbered i
          (omega arith);
      small = λ i u. a.small i (omega arith);
    }

-- a number has one place
pub ascending_apart : {f : ℕ → ℕ} {n : ℕ} → Ascending f n → (i l : ℕ) → i < n → l < n → f i ≡ f l → i ≡ l
ascending_apart a i l h k e =
    split (ltb i l)
    (λ s. absurd (omega (arith, a.up i l (ltb-true i l s) k)))
    (λ s. split (ltb l i) (λ u. absurd (omega (arith, a.up l i (ltb-true l i u) h)))
    (λ u. omega (arith, ltb-false i l s, ltb-false l i u)))

rising_places : (f b : ℕ → ℕ) (n low : ℕ) → ((i : ℕ) → i < n → low < f i) → ((i l : ℕ) → i < l → l < n → f i < f l)
    → Rising low (numbers (places f b n))
unfolding places numbers
rising_places f b zero low h u = tt
rising_places f b (suc n) low h u =
    rw (places_cons f b n) (
      h 0 (omega arith),
      rising_places (next f) (next b) n (f 0) (λ i k. u 0 (suc i) (omega arith) (omega arith))
          (λ i l k m. u (suc i) (suc l) (omega arith) (omega arith)),
    )

pub table_places : {f : ℕ → ℕ} {n : ℕ} (b : ℕ → ℕ) → Ascending f n → Table (places f b n)
table_places {f} {n} b a =
    record {
      up = rising_places f b n 0 a.numbered a.up;
      small = λ x i. let s : At f b n x.number x.beside = sits_places f b n x.number x.beside
          (among_sits (places f b n) x i) in
          omega (arith, s.number, a.small s.at s.below);
    }

places_rising : (f b : ℕ → ℕ) (n low : ℕ) → Rising low (numbers (places f b n)) → (i l : ℕ) → i < l → l < n → f i < f l
unfolding numbers
places_rising f b zero low up i l h k = absurd (omega arith)
places_rising f b (suc n) low up i zero h k = absurd (omega arith)
places_rising f b (suc n) low up zero (suc l) h k =
    let r : Rising low (f 0 ∷ numbers (places (next f) (next b) n)) = rw (places_cons f b n) at up in
    sits_above (places (next f) (next b) n) (f 0) (f (suc l)) (b (suc l)) r.1
    (places_sits (next f) (next b) n l (omega arith))
places_rising f b (suc n) low up (suc i) (suc l) h k =
    let r : Rising low (f 0 ∷ numbers (places (next f) (next b) n)) = rw (places_cons f b n) at up in
    places_rising (next f) (next b) n (f 0) r.1 i l (omega arith) (omega arith)

pub places_table : (f b : ℕ → ℕ) (n : ℕ) → Table (places f b n) → Ascending f n
places_table f b n t =
    record {
      up = places_rising f b n 0 t.up;
      numbered = λ i h. sits_above (places f b n) 0 (f i) (b i) t.up (places_sits f b n i h);
      small = λ i h. t.small (entry (f i) (b i)) (sits_among (places f b n) (f i) (b i) (places_sits f b n i h));
    }

-- ---- what stands beside a number

module _ {f : ℕ → ℕ} {n : ℕ} (b : ℕ → ℕ) (a : Ascending f n) where
  pub held_places : (i : ℕ) → i < n → held (places f b n) (f i) ≡ b i
  held_places i h =
      among_held (places f b n) 0 (table_places b a).up (entry (f i) (b i))
      (sits_among (places f b n) (f i) (b i) (places_sits f b n i h))

  pub beside_places : (i : ℕ) → i < n → beside_of (places f b n) (f i) ≡ b i
  beside_places i h = sym (beside_held (places f b n) 0 (f i) (table_places b a).up) ∙ held_places i h

  -- what holds something has its place
  pub held_at : (q : ℕ) → 0 < held (places f b n) q → At f b n q (held (places f b n) q)
  held_at q h =
      let e : (e : Entry) × Among e (places f b n) × (e.number ≡ q) = held_among (places f b n) q h in
      let s : At f b n e.0.number e.0.beside = sits_places f b n e.0.number e.0.beside
      (among_sits (places f b n) e.0 e.1) in
      let x : f s.at ≡ q = s.number ∙ e.2 in
      record {
        at = s.at;
        below = s.below;
        number = x;
        beside = sym (held_places s.at s.below)
            ∙ ap (held (places f b n)) x;
      }

-- ---- whether a number is there

module _ (f b : ℕ → ℕ) (n x : ℕ) where
  pub has_place : (i : ℕ) → i < n → f i ≡ x → has (places f b n) x ≡ true
  has_place i h e = rw (← e) (in_has (places f b n) (f i) (sits_in (places f b n) (f i) (b i) (places_sits f b n i h)))

  pub has_none : ((i : ℕ) → i < n → f i ≡ x → ⊥) → has (places f b n) x ≡ false
  has_none h =
      split (has (places f b n) x)
      (λ s.
      let v : (v : ℕ) × Sits (places f b n) x v = in_sits (places f b n) x (has_in (places f b n) x s) in
      let a : At f b n x v.0 = sits_places f b n x v.0 v.1 in
      absurd (h a.at a.below a.number))
      (λ s. s)

  -- a search ends at a place with lesser numbers alone below it, and none from it on
  pub has_at : Ascending f n → (at : ℕ) → ((i : ℕ) → i < at → f i < x) → ((i : ℕ) → at ≤ i → i < n → x ≤ f i)
      → has (places f b n) x ≡ (ltb at n && eqb (f at) x)
  has_at a at h k =
      split (ltb at n)
      (λ s. split (eqb (f at) x)
      (λ u. rw (s, u) (has_place at (ltb-true at n s) (eqb-true (f at) x u)))
      (λ u. rw (s, u) (has_none (λ i l e. other i l e (λ (d : i ≡ at). eqb-false (f at) x u (ap f (sym d) ∙ e))))))
      (λ s. rw s (has_none (λ i l e. other i l e (λ (d : i ≡ at). omega (arith, ltb-false at n s)))))
    where
      other : (i : ℕ) → i < n → f i ≡ x → (i ≡ at → ⊥) → ⊥
      other i l e d =
          split (ltb i at)
          (λ s. omega (arith, h i (ltb-true i at s)))
          (λ s. let m : at < i = omega (arith, ltb-false i at s) in omega
          (arith, k at (omega arith) (omega arith), a.up at i m l))

-- ---- limits

pub limits_places : (f b : ℕ → ℕ) (n : ℕ) → ((i : ℕ) → i < n → b i ≤ most_limit) → limits_fit (places f b n) ≡ true
unfolding places limits_fit
limits_places f b zero h = refl
limits_places f b (suc n) h =
    rw (places_cons f b n, le-leb (b 0) most_limit (h 0 (omega arith)))
    (limits_places (next f) (next b) n (λ i k. h (suc i) (omega arith)))

pub places_limits : (f b : ℕ → ℕ) (n : ℕ) → limits_fit (places f b n) ≡ true → (i : ℕ) → i < n → b i ≤ most_limit
unfolding limits_fit
places_limits f b zero t i h = absurd (omega arith)
places_limits f b (suc n) t zero h =
    leb-true (b 0) most_limit (and_left (leb (b 0) most_limit) (limits_fit (places (next f) (next b) n))
    (rw (places_cons f b n) at t))
places_limits f b (suc n) t (suc i) h =
    places_limits (next f) (next b) n (and_right (leb (b 0) most_limit) (limits_fit (places (next f) (next b) n))
    (rw (places_cons f b n) at t)) i (omega arith)
