-- Lists place by place: ordered ones, and searches in them.
--   sorted_ext      two ordered lists of the same entries are one
--   sorted_places   an order by index
--   up_to_places, first_places    a search that stops at an index
-- Assumes nothing.
use mathlib.Core.Bool.{Bool, true, false}
use mathlib.Core.Path.{◌≡◌, refl, sym, ap, ◌∙◌, subst}
use mathlib.Core.List.{List, [], ◌∷◌}
use mathlib.Core.Logic.{inl, inr, ⊎_elim}
use mathlib.Core.Option.{some}
use Prim.Native.Nat.{ℕ, zero, suc, ◌≤◌, ◌<◌}
use native.Mathlib.Omega.{arith}
use Rattle.ring.specs.Scheme.{Positions}
use Rattle.ring.specs.Clockwise.{key}
use Rattle.ring.proofs.Order.{key_apart}
use Rattle.rule.specs.Entry.{Entry, entry, first, up_to}
use Rattle.rule.specs.Facts.{Among, Sorted, Small, Distinct}
use Rattle.rule.proofs.Turns.{up_to_stop, up_to_go}
use Rattle.meaning.specs.Meaning.{places}
use Rattle.meaning.proofs.Places.{places_cons, next}

-- ---- ordered lists

module _ (p : Positions) (t : ℕ) where
  among_least : (e : Entry) (l : List Entry) → Sorted (key p t) (e ∷ l) → (x : Entry) → Among x (e ∷ l)
      → key p t e.number ≤ key p t x.number
  among_least e l up x (inl u) = omega (arith, ap (λ (z : Entry). key p t z.number) u)
  among_least e l up x (inr i) = up.0 x i

  among_rest : (e : Entry) (l : List Entry) → (x : Entry) → Among x (e ∷ l) → (e.number ≡ x.number → ⊥) → Among x l
  among_rest e l x (inl u) d = absurd (d (ap (λ (z : Entry). z.number) (sym u)))
  among_rest e l x (inr i) d = i

  pub sorted_ext : (k l : List Entry) → Sorted (key p t) k → Sorted (key p t) l → Distinct k → Distinct l → Small k
      → Small l
      → ((x : Entry) → Among x k → Among x l) → ((x : Entry) → Among x l → Among x k) → k ≡ l
  sorted_ext [] [] u v d c s r f g = refl
  sorted_ext [] (y ∷ l) u v d c s r f g = absurd (g y (inl refl))
  sorted_ext (x ∷ k) [] u v d c s r f g = absurd (f x (inl refl))
  sorted_ext (x ∷ k) (y ∷ l) u v d c s r f g =
      let n : x.number ≡ y.number =
      key_apart p t x.number y.number (s x (inl refl)) (r y (inl refl))
      (omega (arith, among_least y l v x (f x (inl refl)), among_least x k u y (g y (inl refl)))) in
      let e : x ≡ y = ⊎_elim (λ z. z) (λ i. absurd (c.0 x i (sym n))) (f x (inl refl)) in
      let ih : k ≡ l = sorted_ext k l u.1 v.1 d.1 c.1 (λ z i. s z (inr i)) (λ z i. r z (inr i))
      (λ z i. among_rest y l z (f z (inr i)) (λ w. d.0 z i (n ∙ w)))
      (λ z i. among_rest x k z (g z (inr i)) (λ w. c.0 z i (sym n ∙ w))) in
      λ i. e i ∷ ih i

-- ---- by index

among_places : (f b : ℕ → ℕ) (n : ℕ) (x : Entry) → Among x (places f b n) → (i : ℕ) × (i < n) × (x ≡ entry (f i) (b i))
among_places f b zero x i = absurd (unfold places in i)
among_places f b (suc n) x i =
    ⊎_elim
    (λ u. (0, omega arith, u))
    (λ j. let v : (i : ℕ) × (i < n) × (x ≡ entry (next f i) (next b i)) = among_places (next f) (next b) n x j in
    (suc v.0, omega (arith, v.1), v.2))
    (subst (λ (l : List Entry). Among x l) (places_cons f b n) i)

pub places_among : (f b : ℕ → ℕ) (n i : ℕ) → i < n → Among (entry (f i) (b i)) (places f b n)
places_among f b zero i h = absurd (omega arith)
places_among f b (suc n) zero h =
    subst (λ (l : List Entry). Among (entry (f 0) (b 0)) l) (sym (places_cons f b n)) (inl refl)
places_among f b (suc n) (suc i) h =
    subst (λ (l : List Entry). Among (entry (f (suc i)) (b (suc i))) l) (sym (places_cons f b n))
    (inr (places_among (next f) (next b) n i (omega arith)))

-- an entry of a list by index
pub record Indexed (f b : ℕ → ℕ) (n : ℕ) (x : Entry) : Type 0 where
  pub at : ℕ
  pub below : at < n
  pub is : x ≡ entry (f at) (b at)

pub indexed : (f b : ℕ → ℕ) (n : ℕ) (x : Entry) → Among x (places f b n) → Indexed f b n x
indexed f b n x i =
    let v : (i : ℕ) × (i < n) × (x ≡ entry (f i) (b i)) = among_places f b n x i in
    record { at = v.0; below = v.1; is = v.2 }

pub sorted_places : (k : ℕ → ℕ) (f b : ℕ → ℕ) (n : ℕ) → ((i l : ℕ) → i < l → l < n → k (f i) ≤ k (f l))
    → Sorted k (places f b n)
sorted_places k f b zero h = unfold places in tt
sorted_places k f b (suc n) h =
    subst (λ (l : List Entry). Sorted k l) (sym (places_cons f b n)) (
      λ x i. let v : Indexed (next f) (next b) n x = indexed (next f) (next b) n x i in
          subst (λ (z : Entry). k (f 0) ≤ k z.number) (sym v.is)
          (h 0 (suc v.at) (omega arith) (omega (arith, v.below))),
      sorted_places k (next f) (next b) n (λ i l c d. h (suc i) (suc l) (omega arith) (omega arith)),
    )

pub distinct_places : (f b : ℕ → ℕ) (n : ℕ) → ((i l : ℕ) → i < l → l < n → f i ≡ f l → ⊥) → Distinct (places f b n)
distinct_places f b zero h = unfold places in tt
distinct_places f b (suc n) h =
    subst (λ (l : List Entry). Distinct l) (sym (places_cons f b n)) (
      λ x i e. let v : Indexed (next f) (next b) n x = indexed (next f) (next b) n x i in
          h 0 (suc v.at) (omega arith) (omega (arith, v.below)) (e ∙ ap (λ (z : Entry). z.number) v.is),
      distinct_places (next f) (next b) n (λ i l c d. h (suc i) (suc l) (omega arith) (omega arith)),
    )

-- ---- searches

module _ (g : Entry → Bool) where
  pub up_to_places : (f b : ℕ → ℕ) (n d : ℕ) → d < n → ((i : ℕ) → i < d → g (entry (f i) (b i)) ≡ false)
      → g (entry (f d) (b d)) ≡ true
      → up_to g (places f b n) ≡ places f b d
  up_to_places f b zero d h none_there yes_there = absurd (omega arith)
  up_to_places f b (suc n) zero h none_there yes_there =
      ap (up_to g) (places_cons f b n) ∙ up_to_stop g (entry (f 0) (b 0)) (places (next f) (next b) n) yes_there
      ∙ unfold places in refl
  up_to_places f b (suc n) (suc d) h none_there yes_there =
      ap (up_to g) (places_cons f b n) ∙ up_to_go g (entry (f 0) (b 0)) (places (next f) (next b) n)
      (none_there 0 (omega arith))
      ∙ ap (λ (l : List Entry). entry (f 0) (b 0) ∷ l)
      (up_to_places (next f) (next b) n d (omega arith) (λ i c. none_there (suc i) (omega arith)) yes_there)
      ∙ sym (places_cons f b d)

  pub first_places : (f b : ℕ → ℕ) (n d : ℕ) → d < n → ((i : ℕ) → i < d → g (entry (f i) (b i)) ≡ false)
      → g (entry (f d) (b d)) ≡ true
      → first g (places f b n) ≡ some (entry (f d) (b d))
  first_places f b zero d h none_there yes_there = absurd (omega arith)
  first_places f b (suc n) zero h none_there yes_there =
      ap (first g) (places_cons f b n) ∙ unfold first in (rw (yes_there, first))
  first_places f b (suc n) (suc d) h none_there yes_there =
      ap (first g) (places_cons f b n) ∙ first_miss (entry (f 0) (b 0)) (places (next f) (next b) n)
      (none_there 0 (omega arith))
      ∙ first_places (next f) (next b) n d (omega arith) (λ i c. none_there (suc i) (omega arith)) yes_there
    where
      first_miss : (e : Entry) (l : List Entry) → g e ≡ false → first g (e ∷ l) ≡ first g l
      first_miss e l h = unfold first in (rw (h, first))
