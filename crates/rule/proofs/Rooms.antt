-- Rooms, one by one: what `less`, `choose` and `total` say of `held`.
--   choose_best                          what is chosen has room, and no relay with room is nearer
--   held_less                            one place less at one relay
--   held_here, held_there, held_cases    one entry more
--   chosen                               the choice, as it is made entry by entry
--   total_some, total_less               of all relays together
-- Assumes nothing.
use mathlib.Core.Bool.{cond}
use mathlib.Core.Path.{◌≡◌, refl, sym, ap, ◌∙◌}
use mathlib.Core.List.{List, [], ◌∷◌}
use mathlib.Core.Logic.{◌⊎◌, inl, inr, ⊎_elim}
use mathlib.Core.Option.{Option, none, some}
use Prim.Native.Nat.{ℕ, ◌+◌, ◌-◌, ◌≤◌, ◌<◌}
use native.Mathlib.Omega.{arith}
use borrow.Author.Tests.{ltb-true, ltb-false, eqb-true, eqb-false, eq-eqb, ne_eqb}
use lib.Dec.{eqb, ltb}
use Rattle.ring.proofs.Tests.{split}
use Rattle.rule.specs.Entry.{Entry, total}
use Rattle.rule.specs.Rooms.{held, better, choose_from, choose, or_zero, less}

-- the same test, by an equation of numbers
eqb_same : (a b q : ℕ) → a ≡ b → eqb a q ≡ eqb b q
eqb_same a b q e = ap (λ (n : ℕ). eqb n q) e

pub held_less : (c : ℕ) (es : List Entry) (q : ℕ) → held (less c es) q ≡ held es q - cond (eqb c q) 1 0
unfolding held less
held_less c [] q = omega arith
held_less c (e ∷ es) q =
    let ih : held (less c es) q ≡ held es q - cond (eqb c q) 1 0 = held_less c es q in
    split (eqb e.number c)
    (λ p.
    let u : eqb e.number q ≡ eqb c q = eqb_same e.number c q (eqb-true e.number c p) in
    split (ltb 0 e.beside)
    (λ r. rw (p, r, u) (split (eqb c q) (λ s. rw s (omega (arith, ltb-true 0 e.beside r)))
    (λ s. rw s (omega arith))))
    (λ r. rw (p, r, u) (split (eqb c q) (λ s. rw s (omega (arith, ltb-false 0 e.beside r, rw s at ih)))
    (λ s. rw s (omega (arith, rw s at ih))))))
    (λ p. rw p (split (eqb c q)
    (λ s. rw (s, ne_eqb e.number q (λ (w : e.number ≡ q). eqb-false e.number c p (w ∙ sym (eqb-true c q s))))
    (omega (arith, rw s at ih)))
    (λ s. rw s (omega (arith, rw s at ih)))))

-- ---- one entry more

pub held_here : (e : Entry) (es : List Entry) (q : ℕ) → e.number ≡ q → e.beside ≤ held (e ∷ es) q
unfolding held
held_here e es q p = rw (eq-eqb e.number q p) (omega arith)

pub held_there : (e : Entry) (es : List Entry) (q : ℕ) → held es q ≤ held (e ∷ es) q
unfolding held
held_there e es q = omega arith

pub held_cases : (e : Entry) (es : List Entry) (q : ℕ) → 0 < held (e ∷ es) q → ((e.number ≡ q) × (0 < e.beside)) ⊎
    (0 < held es q)
unfolding held
held_cases e es q h =
    split (eqb e.number q)
    (λ p. split (ltb 0 e.beside)
    (λ r. inl (eqb-true e.number q p, ltb-true 0 e.beside r))
    (λ r. inr (omega (arith, rw p at h, ltb-false 0 e.beside r))))
    (λ p. inr (omega (arith, rw p at h)))

-- ---- the choice

abbrev pub Chosen : (ℕ → ℕ) → Option ℕ → List Entry → Option ℕ → Type 0
Chosen k b es none = (b ≡ none) × ((q : ℕ) → held es q ≡ 0)
Chosen k b es (some c) =
    ((b ≡ some c) ⊎ (0 < held es c)) × ((q : ℕ) → 0 < held es q → k c ≤ k q) × ((a : ℕ) → b ≡ some a → k c ≤ k a)

some_inj : (a b : ℕ) → ◌≡◌ {A = Option ℕ} (some a) (some b) → a ≡ b
some_inj a b p = cc

some_none : (a : ℕ) → ◌≡◌ {A = Option ℕ} (some a) none → ⊥
some_none a p = let z : ◌≡◌ {A = ℕ} 0 1 = cc in omega arith

module _ (k : ℕ → ℕ) (e : Entry) (es : List Entry) where
  -- the entry is the best so far, and has room
  taken : (b : Option ℕ) → 0 < e.beside → ((a : ℕ) → b ≡ some a → k e.number ≤ k a) → (r : Option ℕ)
      → Chosen k (some e.number) es r → Chosen k b (e ∷ es) r
  taken b h m none w = absurd (some_none e.number w.0)
  taken b h m (some c) w = (
    inr (⊎_elim (λ p. omega (arith, held_here e es c (some_inj e.number c p)))
        (λ p. omega (arith, held_there e es c)) w.0),
    λ q p. ⊎_elim (λ u. rw (← u.0) (w.2 e.number refl)) (λ u. w.1 q u) (held_cases e es q p),
    λ a p. omega (arith, w.2 e.number refl, m a p),
  )

  -- the entry has no room, or is no better
  left : (b : Option ℕ) → (0 < e.beside → (a : ℕ) × (b ≡ some a) × (k a ≤ k e.number)) → (r : Option ℕ)
      → Chosen k b es r → Chosen k b (e ∷ es) r
  left b h none w = (
    w.0,
    λ q. split (ltb 0 (held (e ∷ es) q))
        (λ p. absurd (⊎_elim
        (λ u. let v : (a : ℕ) × (b ≡ some a) × (k a ≤ k e.number) = h u.1 in some_none v.0 (sym v.1 ∙ w.0))
        (λ u. omega (arith, w.1 q))
        (held_cases e es q (ltb-true 0 (held (e ∷ es) q) p))))
        (λ p. omega (arith, ltb-false 0 (held (e ∷ es) q) p)),
  )
  left b h (some c) w = (
    ⊎_elim (λ p. inl p) (λ p. inr (omega (arith, held_there e es c))) w.0,
    λ q p. ⊎_elim (λ u. let v : (a : ℕ) × (b ≡ some a) × (k a ≤ k e.number) = h u.1 in rw (← u.0)
        (omega (arith, w.2 v.0 v.1))) (λ u. w.1 q u) (held_cases e es q p),
    w.2,
  )

  step : (b : Option ℕ) (r : Option ℕ) → Chosen k (better k b e) es r → Chosen k b (e ∷ es) r
  unfolding better
  step none r =
      split (ltb 0 e.beside)
      (λ p. rw p (taken none (ltb-true 0 e.beside p) (λ a q. absurd (some_none a (sym q))) r))
      (λ p. rw p (left none (λ h. absurd (let z : e.beside ≤ 0 = ltb-false 0 e.beside p in omega arith)) r))
  step (some b) r =
      split (ltb 0 e.beside)
      (λ p. split (ltb (k e.number) (k b))
      (λ s. rw (p, s) (taken (some b) (ltb-true 0 e.beside p)
      (λ a q. rw (← some_inj b a q) (omega (arith, ltb-true (k e.number) (k b) s))) r))
      (λ s. rw (p, s) (left (some b) (λ h. (b, refl, ltb-false (k e.number) (k b) s)) r)))
      (λ p. rw p (left (some b) (λ h. absurd (let z : e.beside ≤ 0 = ltb-false 0 e.beside p in omega arith)) r))

pub chosen : (k : ℕ → ℕ) (b : Option ℕ) (es : List Entry) → Chosen k b es (choose_from k b es)
unfolding choose_from held
chosen k none [] = (refl, λ q. refl)
chosen k (some c) [] = (inl refl, λ q p. absurd (omega arith), λ a p. omega (arith, ap k (some_inj c a p)))
chosen k b (e ∷ es) = step k e es b (choose_from k (better k b e) es) (chosen k (better k b e) es)

-- ---- what is chosen has room, and no relay with room is nearer

pub record Best (k : ℕ → ℕ) (es : List Entry) (c : ℕ) : Type 0 where
  pub room : 0 < held es c
  pub least : (q : ℕ) → 0 < held es q → k c ≤ k q

-- one with room is enough for a choice
pub choose_best : (k : ℕ → ℕ) (es : List Entry) (q : ℕ) → 0 < held es q → Best k es (or_zero (choose k es))
unfolding choose or_zero
choose_best k es q h = go (choose_from k none es) (chosen k none es)
  where
    go : (r : Option ℕ) → Chosen k none es r → Best k es (or_zero r)
    go none w = absurd (omega (arith, w.1 q))
    go (some c) w = record { room = ⊎_elim (λ p. absurd (some_none c (sym p))) (λ p. p) w.0; least = w.1 }

-- ---- totals

pub total_some : (es : List Entry) → 0 < total es → (q : ℕ) × (0 < held es q)
unfolding total
total_some [] h = absurd (omega arith)
total_some (e ∷ es) h =
    split (ltb 0 e.beside)
    (λ p. (
      e.number,
      (let z : 0 < e.beside = ltb-true 0 e.beside p in omega
          (arith, held_here e es e.number refl)),
    ))
    (λ p. let z : e.beside ≤ 0 = ltb-false 0 e.beside p in
    let v : (q : ℕ) × (0 < held es q) = total_some es (omega arith) in
    (v.0, omega (arith, held_there e es v.0)))

pub total_less : (c : ℕ) (es : List Entry) → 0 < held es c → total (less c es) + 1 ≡ total es
unfolding total less held
total_less c [] h = absurd (omega arith)
total_less c (e ∷ es) h =
    split (eqb e.number c)
    (λ p. split (ltb 0 e.beside)
    (λ r. rw (p, r) (omega (arith, ltb-true 0 e.beside r)))
    (λ r. rw (p, r) (let z : e.beside ≤ 0 = ltb-false 0 e.beside r in omega
    (arith, total_less c es (omega (arith, rw p at h))))))
    (λ p. rw p (omega (arith, total_less c es (omega (arith, rw p at h)))))
