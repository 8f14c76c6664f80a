-- Places that follow one another, as entries, and one entry put in, taken out or changed among them.
--   firsts_insert, firsts_delete, firsts_put    each from what every place gives afterwards
-- Assumes nothing.
use mathlib.Core.List.{List, [], ◌∷◌, ◌++◌, append-nil, append_assoc}
use mathlib.Core.Path.{◌≡◌, refl, sym, ap, ap₂, ◌∙◌}
use Prim.Native.Nat.{ℕ, zero, suc, ◌+◌, ◌-◌, ◌≤◌, ◌<◌}
use native.Mathlib.Nat.{le_refl}
use native.Mathlib.Omega.{arith}
use Rattle.rule.specs.Entry.{Entry, entry, insert, delete, put}
use Rattle.rule.proofs.Puts.{insert_here, insert_past, delete_hit, delete_miss, put_hit, put_miss}
use Rattle.meaning.specs.Meaning.{places}
use Rattle.write.specs.Wrote.{Place, Climbs}

-- the first m of the places that f gives
abbrev pub firsts : (ℕ → Entry) → ℕ → List Entry
firsts f m = places (λ i. (f i).number) (λ i. (f i).beside) m

-- n of them, from place a on
span : (ℕ → Entry) → ℕ → ℕ → List Entry
span f a zero = []
span f a (suc n) = f a ∷ span f (suc a) n

-- ---- two tables that agree

span_same : (f g : ℕ → Entry) (a n : ℕ) → ((i : ℕ) → a ≤ i → i < a + n → g i ≡ f i) → span g a n ≡ span f a n
unfolding span
span_same f g a zero h = refl
span_same f g a (suc n) h =
    ap₂ ◌∷◌ (h a (le_refl a) (omega arith)) (span_same f g (suc a) n (λ i l u. h i (omega arith) (omega arith)))

span_next : (f : ℕ → Entry) (a n : ℕ) → span f (suc a) n ≡ span (λ i. f (suc i)) a n
unfolding span
span_next f a zero = refl
span_next f a (suc n) = ap (λ (l : List Entry). f (suc a) ∷ l) (span_next f (suc a) n)

firsts_same : (f g : ℕ → Entry) (n : ℕ) → ((i : ℕ) → i < n → g i ≡ f i) → firsts g n ≡ firsts f n
unfolding places
firsts_same f g zero h = refl
firsts_same f g (suc n) h =
    ap₂ (λ (l : List Entry) (e : Entry). l ++ (e ∷ [])) (firsts_same f g n (λ i l. h i (omega arith)))
    (h n (omega arith))

firsts_span : (f : ℕ → Entry) (a n m : ℕ) → m ≡ a + n → firsts f m ≡ firsts f a ++ span f a n
unfolding places span
firsts_span f a zero m e = let z : m ≡ a = omega arith in ap (firsts f) z ∙ sym (append-nil (firsts f a))
firsts_span f a (suc n) m e =
    firsts_span f (suc a) n m (omega arith) ∙ append_assoc (firsts f a) (f a ∷ []) (span f (suc a) n)

-- ---- a change that passes each of the first places

passes : (change : List Entry → List Entry) (f : ℕ → Entry) (k : ℕ)
    → ((i : ℕ) → i < k → (es : List Entry) → change (f i ∷ es) ≡ f i ∷ change es)
    → (rest : List Entry) → change (firsts f k ++ rest) ≡ firsts f k ++ change rest
unfolding places
passes change f zero h rest = refl
passes change f (suc k) h rest =
    ap change (append_assoc (firsts f k) (f k ∷ []) rest) ∙ passes change f k (λ i l. h i (omega arith)) (f k ∷ rest)
    ∙ ap (λ (l : List Entry). firsts f k ++ l) (h k (omega arith) rest)
    ∙ sym (append_assoc (firsts f k) (f k ∷ []) (change rest))

-- ---- the three changes. f is the table before, g the table after

module _ (f g : ℕ → Entry) (at : ℕ) (low : (i : ℕ) → i < at → g i ≡ f i) where
  -- those below are as they were, and what follows them
  parts : (n m : ℕ) → m ≡ at + n → firsts g m ≡ firsts f at ++ span g at n
  parts n m e = firsts_span g at n m e ∙ ap (λ (l : List Entry). l ++ span g at n) (firsts_same f g at low)

  insert_span : (x v n : ℕ) → ((i : ℕ) → at ≤ i → i < at + n → x < (f i).number) → insert x v (span f at n)
      ≡ entry x v ∷ span f at n
  unfolding insert span
  insert_span x v zero h = refl
  insert_span x v (suc n) h = insert_here x v (f at) (span f (suc at) n) (h at (le_refl at) (omega arith))

  pub firsts_insert : (m x v : ℕ) → Place (λ i. (f i).number) m x at → g at ≡ entry x v
      → ((i : ℕ) → at ≤ i → i < m → g (suc i) ≡ f i)
      → firsts g (suc m) ≡ insert x v (firsts f m)
  unfolding span
  firsts_insert m x v p here up =
      let n : ℕ = m - at in
      let e : m ≡ at + n = omega (arith, p.within) in
      parts (suc n) (suc m) (omega arith)
      ∙ ap (λ (l : List Entry). firsts f at ++ l)
      (ap₂ ◌∷◌ here (span_next g at n ∙ span_same f (λ i. g (suc i)) at n (λ i l u. up i l (omega arith)))
      ∙ sym (insert_span x v n (λ i l u. p.above i l (omega arith))))
      ∙ sym (passes (insert x v) f at (λ i l es. insert_past x v (f i) es
      (let z : (f i).number < x = p.below i l in omega arith)) (span f at n))
      ∙ ap (insert x v) (sym (firsts_span f at n m e))

  module _ (n : ℕ) (climb : Climbs (λ i. (f i).number) (suc (at + n))) where
    -- the one at the place comes behind others
    behind : (i : ℕ) → i < at → (f i).number ≡ (f at).number → ⊥
    behind i l e = let z : (f i).number < (f at).number = climb.up i at l (omega arith) in omega arith

    all_of : firsts f (suc (at + n)) ≡ firsts f at ++ (f at ∷ span f (suc at) n)
    unfolding span
    all_of = firsts_span f at (suc n) (suc (at + n)) (omega arith)

    pub firsts_delete : ((i : ℕ) → at ≤ i → i < at + n → g i ≡ f (suc i)) → firsts g (at + n) ≡ delete (f at).number
        (firsts f (suc (at + n)))
    firsts_delete down =
        parts n (at + n) refl
        ∙ ap (λ (l : List Entry). firsts f at ++ l) (span_same (λ i. f (suc i)) g at n down ∙ sym (span_next f at n)
        ∙ sym (delete_hit (f at).number 0 (f at) (span f (suc at) n) refl))
        ∙ sym (passes (delete (f at).number) f at (λ i l es. delete_miss (f at).number 0 (f i) es (behind i l))
        (f at ∷ span f (suc at) n))
        ∙ ap (delete (f at).number) (sym all_of)

    pub firsts_put : (v : ℕ) → g at ≡ entry (f at).number v → ((i : ℕ) → at < i → g i ≡ f i)
        → firsts g (suc (at + n)) ≡ put (f at).number v (firsts f (suc (at + n)))
    unfolding span
    firsts_put v here high =
        parts (suc n) (suc (at + n)) (omega arith)
        ∙ ap (λ (l : List Entry). firsts f at ++ l) (ap₂ ◌∷◌ here (span_same f g (suc at) n (λ i l u. high i l))
        ∙ sym (put_hit (f at).number v (f at) (span f (suc at) n) refl))
        ∙ sym (passes (put (f at).number v) f at (λ i l es. put_miss (f at).number v (f i) es (behind i l))
        (f at ∷ span f (suc at) n))
        ∙ ap (put (f at).number v) (sym all_of)
