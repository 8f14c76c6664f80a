-- The step behind demand 3, over any preference and the filling of rooms: with nowhere less room and no tablet more, no tablet is placed later.
-- Assumes nothing.
use mathlib.Core.Path.{◌≡◌, refl, sym, ap, ◌∙◌}
use mathlib.Core.List.{List, [], ◌∷◌}
use mathlib.Core.Logic.{inl, inr, ⊎_elim}
use Prim.Native.Nat.{ℕ, ◌-◌, ◌≤◌, ◌<◌}
use native.Mathlib.Omega.{arith}
use borrow.Author.Tests.{ltb-true, ltb-false, eqb-true, eqb-false, eq-eqb, ne_eqb}
use lib.Dec.{eqb, ltb}
use lib.ListN.{length}
use Rattle.ring.proofs.Tests.{split}
use Rattle.rule.specs.Entry.{Entry, total, beside_of, entry}
use Rattle.rule.specs.Rooms.{held, choose, or_zero, less, fill}
use Rattle.rule.specs.Stability.{Rising, In}
use Rattle.rule.proofs.Sets.{rising_in, in_rest}
use Rattle.rule.proofs.Rooms.{held_less, Best, choose_best, total_some, total_less}

-- the first list, with some of the second's left out
pub data Sub : List ℕ → List ℕ → Type 0 where
  done : Sub [] []
  keep : {t : ℕ} {ts us : List ℕ} → Sub ts us → Sub (t ∷ ts) (t ∷ us)
  skip : {u : ℕ} {ts us : List ℕ} → Sub ts us → Sub ts (u ∷ us)

sub_in : {ts us : List ℕ} → Sub ts us → (t : ℕ) → In t ts → In t us
sub_in done t i = i
sub_in (keep s) t (inl p) = inl p
sub_in (keep s) t (inr i) = inr (sub_in s t i)
sub_in (skip s) t i = inr (sub_in s t i)

-- what rises and is contained is the other with some left out
sub_of : (us ts : List ℕ) (low : ℕ) → Rising low us → (low' : ℕ) → Rising low' ts → ((t : ℕ) → In t ts → In t us)
    → Sub ts us
sub_of [] [] low up low' up' h = done
sub_of [] (t ∷ ts) low up low' up' h = absurd (h t (inl refl))
sub_of (u ∷ us) [] low up low' up' h = skip (sub_of us [] u up.1 low' tt (λ t i. absurd i))
sub_of (u ∷ us) (t ∷ ts) low up low' up' h =
    split (eqb t u)
    (λ p.
    let e : t ≡ u = eqb-true t u p in
    let w : Sub ts us = sub_of us ts u up.1 t up'.1
    (λ s i. in_rest u us s (λ (x : s ≡ u). omega (arith, rising_in t ts s up'.1 i)) (h s (inr i))) in
    rw e (keep w))
    (λ p.
    let l : u < t = rising_in u us t up.1 (in_rest u us t (eqb-false t u p) (h t (inl refl))) in
    skip (sub_of us (t ∷ ts) u up.1 low' up' (λ s i. in_rest u us s
    (λ (x : s ≡ u). ⊎_elim (λ (y : s ≡ t). omega arith) (λ y. omega (arith, rising_in t ts s up'.1 y)) i) (h s i))))

-- an entry more in front, of another number
beside_other : (u c : ℕ) (p : List Entry) (t : ℕ) → u < t → beside_of (entry (u) (c) ∷ p) t ≡ beside_of p t
unfolding beside_of
beside_other u c p t h = rw (ne_eqb u t (λ (e : u ≡ t). omega arith))

beside_here : (t c : ℕ) (p : List Entry) (s : ℕ) → s ≡ t → beside_of (entry (t) (c) ∷ p) s ≡ c
unfolding beside_of
beside_here t c p s h = rw (eq-eqb t s (sym h))

-- one room taken
less_le : (c : ℕ) (es : List Entry) (q : ℕ) → held (less c es) q ≤ held es q
less_le c es q = omega (arith, held_less c es q)

module _ (key : ℕ → ℕ → ℕ) (Ok : ℕ → Type 0) (apart : (t r q : ℕ) → Ok r → Ok q → key t r ≡ key t q → r ≡ q) where
  -- the choice where there is room for one more
  pick : (rs : List Entry) (t : ℕ) → 0 < total rs → Best (key t) rs (or_zero (choose (key t) rs))
  pick rs t h = let v : (q : ℕ) × (0 < held rs q) = total_some rs h in choose_best (key t) rs v.0 v.1

  -- the second's choice is another than the first's: the first had no room there
  none_there : (rs₁ rs₂ : List Entry) (t c₁ c₂ : ℕ) → Best (key t) rs₁ c₁ → Best (key t) rs₂ c₂
      → ((r : ℕ) → held rs₁ r ≤ held rs₂ r) → ((r : ℕ) → 0 < held rs₂ r → Ok r)
      → (r : ℕ) → c₂ ≡ r → (c₁ ≡ r → ⊥) → held rs₁ r ≡ 0
  none_there rs₁ rs₂ t c₁ c₂ b₁ b₂ m ok r p n =
      split (ltb 0 (held rs₁ r))
      (λ u.
      let x : 0 < held rs₁ r = ltb-true 0 (held rs₁ r) u in
      let y : 0 < held rs₂ c₁ = omega (arith, b₁.room, m c₁) in
      let e : key t c₁ ≡ key t c₂ = omega (arith, b₁.least r x, b₂.least c₁ y, ap (key t) p) in
      absurd (n (apart t c₁ c₂ (ok c₁ y) (ok c₂ b₂.room) e ∙ p)))
      (λ u. omega (arith, ltb-false 0 (held rs₁ r) u))

  -- both rings place t, and the first has nowhere more room: nor has it afterwards
  both : (rs₁ rs₂ : List Entry) (t c₁ c₂ : ℕ) → Best (key t) rs₁ c₁ → Best (key t) rs₂ c₂
      → ((r : ℕ) → held rs₁ r ≤ held rs₂ r) → ((r : ℕ) → 0 < held rs₂ r → Ok r)
      → (r : ℕ) → held (less c₁ rs₁) r ≤ held (less c₂ rs₂) r
  both rs₁ rs₂ t c₁ c₂ b₁ b₂ m ok r =
      split (eqb c₂ r)
      (λ p. split (eqb c₁ r)
      (λ s. omega (arith, m r, rw s at (held_less c₁ rs₁ r), rw p at (held_less c₂ rs₂ r)))
      (λ s. let z : held rs₁ r ≡ 0 = none_there rs₁ rs₂ t c₁ c₂ b₁ b₂ m ok r (eqb-true c₂ r p)
      (eqb-false c₁ r s) in omega (arith, less_le c₁ rs₁ r)))
      (λ p. let z : held (less c₂ rs₂) r ≡ held rs₂ r - 0 = rw p at (held_less c₂ rs₂ r) in omega
      (arith, less_le c₁ rs₁ r, m r))

  main : {ts us : List ℕ} → Sub ts us → (rs₁ rs₂ : List Entry)
      → ((r : ℕ) → held rs₁ r ≤ held rs₂ r) → ((r : ℕ) → 0 < held rs₂ r → Ok r)
      → length us ≤ total rs₁ → length ts ≤ total rs₂ → (low : ℕ) → Rising low us
      → (s : ℕ) → In s ts → key s (beside_of (fill key rs₂ ts) s) ≤ key s (beside_of (fill key rs₁ us) s)
  unfolding fill
  main done rs₁ rs₂ m ok h₁ h₂ low up s i = absurd i
  main (keep {t = t} {ts = ts} {us = us} w) rs₁ rs₂ m ok h₁ h₂ low up s (inl p) =
      simp beside_here
      (rw p
      (let b₁ : Best (key t) rs₁ (or_zero (choose (key t) rs₁)) = pick rs₁ t (omega arith) in
      (pick rs₂ t (omega arith)).least _ (omega (arith, b₁.room, m (or_zero (choose (key t) rs₁))))))
  main (keep {t = t} {ts = ts} {us = us} w) rs₁ rs₂ m ok h₁ h₂ low up s (inr i) =
      let b₁ : Best (key t) rs₁ (or_zero (choose (key t) rs₁)) = pick rs₁ t (omega arith) in
      let b₂ : Best (key t) rs₂ (or_zero (choose (key t) rs₂)) = pick rs₂ t (omega arith) in
      let q : t < s = rising_in t us s up.1 (sub_in w s i) in
      simp beside_other
      (main w _ _ (both rs₁ rs₂ t _ _ b₁ b₂ m ok)
      (λ r h. ok r (omega (arith, less_le (or_zero (choose (key t) rs₂)) rs₂ r)))
      (omega (arith, total_less _ rs₁ b₁.room)) (omega (arith, total_less _ rs₂ b₂.room)) t up.1 s i)
  main (skip {u = u} {ts = ts} {us = us} w) rs₁ rs₂ m ok h₁ h₂ low up s i =
      let b₁ : Best (key u) rs₁ (or_zero (choose (key u) rs₁)) = pick rs₁ u (omega arith) in
      let q : u < s = rising_in u us s up.1 (sub_in w s i) in
      rw beside_other
      (main w _ rs₂ (λ r. omega (arith, less_le (or_zero (choose (key u) rs₁)) rs₁ r, m r)) ok
      (omega (arith, total_less _ rs₁ b₁.room)) h₂ u up.1 s i)

  pub nearer : (rs₁ rs₂ : List Entry) (ts₁ ts₂ : List ℕ) → Rising 0 ts₁ → Rising 0 ts₂
      → ((r : ℕ) → held rs₁ r ≤ held rs₂ r) → ((r : ℕ) → 0 < held rs₂ r → Ok r) → ((t : ℕ) → In t ts₂ → In t ts₁)
      → length ts₁ ≤ total rs₁ → length ts₂ ≤ total rs₂
      → (t : ℕ) → In t ts₂ → key t (beside_of (fill key rs₂ ts₂) t) ≤ key t (beside_of (fill key rs₁ ts₁) t)
  nearer rs₁ rs₂ ts₁ ts₂ up₁ up₂ m ok h l₁ l₂ t i = main (sub_of ts₁ ts₂ 0 up₁ 0 up₂ h) rs₁ rs₂ m ok l₁ l₂ 0 up₁ t i
