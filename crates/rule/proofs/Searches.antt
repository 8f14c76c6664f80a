-- Laws of what the walks look for.
--   greatest_sits, greatest_top    the greatest number at a relay
--   stops_lower, lower_stops       a walker stops where the lower numbers leave it room, and nowhere else
--   behind_in, behind_sorted, in_behind    what is left of an order behind a relay
--   lowest_some, lowest_none, lowest_least    the lowest number of all that meet a test
-- Assumes nothing.
use mathlib.Core.Bool.{Bool, true, false, ◌&&◌}
use mathlib.Core.Path.{◌≡◌, refl, sym, ap, ◌∙◌}
use mathlib.Core.List.{List, [], ◌∷◌}
use mathlib.Core.Logic.{◌⊎◌, inl, inr, ⊎_elim}
use mathlib.Core.Option.{Option, none, some}
use Prim.Native.Nat.{ℕ, ◌≤◌, ◌<◌, max}
use native.Mathlib.Omega.{arith}
use borrow.Author.Tests.{ltb-true, ltb-false, eqb-true, eqb-false, eq-eqb, lt-ltb}
use lib.Dec.{eqb, ltb}
use Rattle.ring.proofs.Tests.{split, and_left, and_right, true_false}
use Rattle.rule.specs.Entry.{Entry, entry, numbers, load}
use Rattle.rule.specs.Rule.{full, has_room}
use Rattle.rule.specs.Walks.{greatest, stops, behind, lower_of, lowest}
use Rattle.rule.specs.Stability.{In, Sits, lower}
use Rattle.rule.specs.Facts.{Among, Sorted}
use Rattle.rule.proofs.Counts.{lower_load, lower_load_one, above_sits}
use Rattle.rule.proofs.Sets.{sits_in}
use Rattle.rule.proofs.Orders.{option_some, option_apart}

-- ---- entries that sit

pub sits_among : (es : List Entry) (n v : ℕ) → Sits es n v → Among (entry n v) es
sits_among [] n v i = i
sits_among (e ∷ es) n v (inl u) = inl (λ i. record { number = sym u.0 i; beside = sym u.1 i })
sits_among (e ∷ es) n v (inr i) = inr (sits_among es n v i)

pub among_sits : (es : List Entry) (e : Entry) → Among e es → Sits es e.number e.beside
among_sits [] e i = i
among_sits (x ∷ es) e (inl u) = inl (ap (λ (z : Entry). z.number) (sym u), ap (λ (z : Entry). z.beside) (sym u))
among_sits (x ∷ es) e (inr i) = inr (among_sits es e i)

-- ---- the greatest

pub greatest_top : (es : List Entry) (r n : ℕ) → Sits es n r → n ≤ greatest es r
unfolding greatest
greatest_top [] r n i = absurd i
greatest_top (e ∷ es) r n (inl u) = rw (eq-eqb e.beside r u.1, greatest) (omega (arith, u.0))
greatest_top (e ∷ es) r n (inr i) =
    split (eqb e.beside r)
    (λ s. rw (s, greatest) (omega (arith, greatest_top es r n i)))
    (λ s. rw (s, greatest) (greatest_top es r n i))

pub greatest_sits : (es : List Entry) (r : ℕ) → 0 < greatest es r → Sits es (greatest es r) r
unfolding greatest
greatest_sits [] r h = absurd (omega arith)
greatest_sits (e ∷ es) r h =
    split (eqb e.beside r)
    (λ s. rw (s, greatest)
    (split (ltb (greatest es r) e.number)
    (λ u. let l : greatest es r < e.number = ltb-true (greatest es r) e.number u in inl
    (omega arith, eqb-true e.beside r s))
    (λ u.
    let l : e.number ≤ greatest es r = ltb-false (greatest es r) e.number u in
    let m : max e.number (greatest es r) ≡ greatest es r = omega arith in
    let k : 0 < greatest es r = omega (arith, rw (s, greatest) at h) in
    rw m (inr (greatest_sits es r k)))))
    (λ s. rw (s, greatest) (inr (greatest_sits es r (rw (s, greatest) at h))))

-- ---- where a walker stops

module _ (es : List Entry) (w : ℕ) (x : Entry) where
  pub stops_lower : stops es w x ≡ true → lower es x.number w < x.beside
  unfolding stops has_room full
  stops_lower h =
      split (ltb (load es x.number) x.beside)
      (λ s. omega (arith, ltb-true (load es x.number) x.beside s, lower_load es x.number w))
      (λ s.
      let b : (eqb (load es x.number) x.beside && ltb w (greatest es x.number)) ≡ true = rw s at h in
      let f : load es x.number ≡ x.beside = eqb-true (load es x.number) x.beside
      (and_left (eqb (load es x.number) x.beside) (ltb w (greatest es x.number)) b) in
      let g : w < greatest es x.number = ltb-true w (greatest es x.number)
      (and_right (eqb (load es x.number) x.beside) (ltb w (greatest es x.number)) b) in
      omega (
        arith,
        lower_load_one es x.number w (greatest es x.number)
            (greatest_sits es x.number (omega arith)) (omega arith),
      ))

  pub lower_stops : load es x.number ≤ x.beside → (In w (numbers es) → ⊥) → lower es x.number w < x.beside
      → stops es w x ≡ true
  unfolding stops has_room full
  lower_stops l out h =
      split (ltb (load es x.number) x.beside)
      (λ s. rw s)
      (λ s.
      let f : load es x.number ≡ x.beside = omega (arith, ltb-false (load es x.number) x.beside s) in
      let m : (m : ℕ) × Sits es m x.number × (w ≤ m) = above_sits es x.number w (omega arith) in
      let n : w ≡ m.0 → ⊥ = λ e. out (rw e (sits_in es m.0 x.number m.1)) in
      rw (
        s,
        eq-eqb (load es x.number) x.beside f,
        lt-ltb w (greatest es x.number)
            (omega (arith, m.2, n, greatest_top es x.number m.0 m.1)),
      ))

  -- a walker that stops where there is no room stops at a full relay with a greater number
  pub stops_full : stops es w x ≡ true → has_room es x ≡ false → (load es x.number ≡ x.beside)
      × (w < greatest es x.number)
  unfolding stops full
  stops_full h s =
      let b : (eqb (load es x.number) x.beside && ltb w (greatest es x.number)) ≡ true = rw s at h in (
        eqb-true (load es x.number) x.beside
            (and_left (eqb (load es x.number) x.beside) (ltb w (greatest es x.number)) b),
        ltb-true w (greatest es x.number) (and_right (eqb (load es x.number) x.beside)
            (ltb w (greatest es x.number)) b),
      )

-- ---- behind a relay

pub behind_in : (r : ℕ) (l : List Entry) (x : Entry) → Among x (behind r l) → Among x l
unfolding behind
behind_in r [] x = λ i. i
behind_in r (y ∷ l) x =
    split (eqb y.number r) (λ s. rw (s, behind) (λ i. inr i)) (λ s. rw (s, behind) (λ i. inr (behind_in r l x i)))

pub behind_sorted : (k : ℕ → ℕ) (r : ℕ) (l : List Entry) → Sorted k l → Sorted k (behind r l)
unfolding behind
behind_sorted k r [] up = tt
behind_sorted k r (y ∷ l) up =
    split (eqb y.number r) (λ s. rw (s, behind) up.1) (λ s. rw (s, behind) (behind_sorted k r l up.1))

-- whoever comes later than a relay of the list is behind it
pub in_behind : (k : ℕ → ℕ) (e : Entry) (l : List Entry) → Sorted k l → Among e l → (x : Entry) → Among x l
    → k e.number < k x.number → Among x (behind e.number l)
unfolding behind
in_behind k e [] up i x j h = absurd i
in_behind k e (y ∷ l) up i x j h =
    split (eqb y.number e.number)
    (λ s. rw (s, behind)
    (⊎_elim (λ u. absurd (omega (
      arith,
      ap k (eqb-true y.number e.number s),
      ap
          (λ (z : Entry). k z.number) u,
    ))) (λ v. v) j))
    (λ s.
    let il : Among e l = ⊎_elim (λ u. absurd
    (eqb-false y.number e.number s (ap (λ (z : Entry). z.number) (sym u)))) (λ v. v) i in
    rw (s, behind)
    (in_behind k e l up.1 il x
    (⊎_elim (λ u. absurd (omega (arith, up.0 e il, ap (λ (z : Entry). k z.number) u))) (λ v. v) j) h))

-- ---- the lowest

-- of two entries the one that a test picks
picked : (b : Bool) (e f x : Entry) → ◌≡◌ {A = Option Entry} (elim b [ true ↦ some e | false ↦ some f ]) (some x)
    → ((b ≡ true) × (e ≡ x)) ⊎ ((b ≡ false) × (f ≡ x))
picked true e f x h = inl (refl, option_some e x h)
picked false e f x h = inr (refl, option_some f x h)

-- the lower of two is one of them, and no greater than either
lower_of_some : (e f x : Entry) → lower_of e (some f) ≡ some x → ((e ≡ x) ⊎ (f ≡ x)) × (x.number ≤ e.number)
    × (x.number ≤ f.number)
unfolding lower_of
lower_of_some e f x h =
    ⊎_elim
    (λ u. let l : e.number < f.number = ltb-true e.number f.number u.0 in
    let q : e.number ≡ x.number = ap (λ (z : Entry). z.number) u.1 in
    (inl u.1, omega arith, omega arith))
    (λ u. let l : f.number ≤ e.number = ltb-false e.number f.number u.0 in
    let q : f.number ≡ x.number = ap (λ (z : Entry). z.number) u.1 in
    (inr u.1, omega arith, omega arith))
    (picked (ltb e.number f.number) e f x h)

lower_of_cases : (e : Entry) (o : Option Entry) (x : Entry) → lower_of e o ≡ some x → ((e ≡ x) ⊎ (o ≡ some x))
    × (x.number ≤ e.number)
unfolding lower_of
lower_of_cases e none x h = let q : e ≡ x = option_some e x h in (inl q, omega (arith, ap (λ (z : Entry). z.number) q))
lower_of_cases e (some f) x h =
    let v : ((e ≡ x) ⊎ (f ≡ x)) × (x.number ≤ e.number) × (x.number ≤ f.number) = lower_of_some e f x h in
    (⊎_elim (λ u. inl u) (λ u. inr (ap (λ (z : Entry). some z) u)) v.0, v.1)

lower_of_none : (e : Entry) (o : Option Entry) → lower_of e o ≡ none → ⊥
unfolding lower_of
lower_of_none e none = λ h. option_apart e (sym h)
lower_of_none e (some f) =
    split (ltb e.number f.number) (λ s. rw (s, lower_of) (λ h. option_apart e (sym h)))
    (λ s. rw (s, lower_of) (λ h. option_apart f (sym h)))

module _ (f : Entry → Bool) where
  pub lowest_none : (l : List Entry) → lowest f l ≡ none → (x : Entry) → Among x l → f x ≡ false
  unfolding lowest
  lowest_none [] h x i = absurd i
  lowest_none (y ∷ l) h x i =
      split (f y)
      (λ s. absurd (lower_of_none y (lowest f l) (rw (s, lowest) at h)))
      (λ s. ⊎_elim (λ u. ap f u ∙ s) (λ j. lowest_none l (rw (s, lowest) at h) x j) i)

  pub lowest_some : (l : List Entry) (e : Entry) → lowest f l ≡ some e → Among e l × (f e ≡ true)
  unfolding lowest
  lowest_some [] e h = absurd (option_apart e h)
  lowest_some (y ∷ l) e h =
      split (f y)
      (λ s. ⊎_elim (λ u. (inl (sym u), ap f (sym u) ∙ s)) (λ v. further (lowest_some l e v))
      (lower_of_cases y (lowest f l) e (rw (s, lowest) at h)).0)
      (λ s. further (lowest_some l e (rw (s, lowest) at h)))
    where
      further : Among e l × (f e ≡ true) → Among e (y ∷ l) × (f e ≡ true)
      further v = (inr v.0, v.1)

  pub lowest_least : (l : List Entry) (e : Entry) → lowest f l ≡ some e → (x : Entry) → Among x l → f x ≡ true
      → e.number ≤ x.number
  unfolding lowest
  lowest_least [] e h x i t = absurd i
  lowest_least (y ∷ l) e h x i t =
      split (f y)
      (λ s.
      let h' : lower_of y (lowest f l) ≡ some e = rw (s, lowest) at h in
      ⊎_elim
      (λ u. omega (arith, (lower_of_cases y (lowest f l) e h').1, ap (λ (z : Entry). z.number) u))
      (λ j. rest (lowest f l) refl h' j (λ v. lowest_least l v))
      i)
      (λ s. lowest_least l e (rw (s, lowest) at h) x (⊎_elim (λ u. absurd (true_false (sym t ∙ ap f u ∙ s))) (λ j. j) i)
      t)
    where
      rest : (o : Option Entry) → lowest f l ≡ o → lower_of y (lowest f l) ≡ some e → Among x l
          → ((v : Entry) → lowest f l ≡ some v → (x : Entry) → Among x l → f x ≡ true → v.number ≤ x.number)
          → e.number ≤ x.number
      rest none u h' j ih = absurd (true_false (sym t ∙ lowest_none l u x j))
      rest (some v) u h' j ih = omega (arith, (lower_of_some y v e (ap (lower_of y) (sym u) ∙ h')).2, ih v u x j t)
