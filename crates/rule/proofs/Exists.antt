-- Where the limits sum to more than the tablets, a walker finds a relay.
--   fair_exists    one that it may sit down at
--   held_above     a number below all others has no room
-- Assumes nothing.
use mathlib.Core.Path.{◌≡◌, refl, ap}
use mathlib.Core.List.{List, [], ◌∷◌}
use Prim.Native.Nat.{ℕ, ◌+◌, ◌-◌, ◌≤◌, ◌<◌}
use native.Mathlib.Omega.{arith}
use borrow.Author.Tests.{eqb-true, eqb-false, ne_eqb}
use lib.Dec.{eqb}
use lib.ListN.{length}
use Rattle.ring.proofs.Tests.{split}
use Rattle.rule.specs.Entry.{Entry, entry, numbers, total}
use Rattle.rule.specs.Rooms.{held, choose, or_zero}
use Rattle.rule.specs.Stability.{Rising, lower, Fair}
use Rattle.rule.proofs.Counts.{at, at_one, at_other}
use Rattle.rule.proofs.Rooms.{Best, choose_best, total_some}

-- the room that the tablets below n leave: limits less their counts
unfoldable pub left : List Entry → List Entry → ℕ → List Entry
left [] p n = []
left (e ∷ rs) p n = entry e.number (e.beside - lower p e.number n) ∷ left rs p n

pub held_above : (rs : List Entry) (low q : ℕ) → Rising low (numbers rs) → q ≤ low → held rs q ≡ 0
unfolding held numbers
held_above [] low q up h = refl
held_above (e ∷ rs) low q up h =
    rw (
      ne_eqb e.number q (λ (x : e.number ≡ q). omega (arith, up.0)),
      held_above rs e.number q up.1
          (omega (arith, up.0)),
    )

held_left : (rs : List Entry) (low : ℕ) → Rising low (numbers rs) → (p : List Entry) (n q : ℕ) → held (left rs p n) q
    ≡ held rs q - lower p q n
unfolding held numbers left
held_left [] low up p n q = omega arith
held_left (e ∷ rs) low up p n q =
    split (eqb e.number q)
    (λ s. let x : e.number ≡ q = eqb-true e.number q s in
    rw s (omega (
      arith,
      held_left rs e.number up.1 p n q,
      held_above rs e.number q up.1 (omega arith),
      ap
          (λ (y : ℕ). lower p y n) x,
    )))
    (λ s. rw s (omega (arith, held_left rs e.number up.1 p n q)))

sum_by : (ℕ → ℕ) → List Entry → ℕ
sum_by f [] = 0
sum_by f (e ∷ rs) = f e.number + sum_by f rs

sum_add : (f g h : ℕ → ℕ) (rs : List Entry) → ((q : ℕ) → f q ≡ g q + h q) → sum_by f rs ≡ sum_by g rs + sum_by h rs
unfolding sum_by
sum_add f g h [] e = omega arith
sum_add f g h (r ∷ rs) e = omega (arith, sum_add f g h rs e, e r.number)

-- one entry counts at one relay only
sum_none : (c m n : ℕ) (rs : List Entry) (low : ℕ) → Rising low (numbers rs) → c ≤ low → sum_by (λ q. at c q m n) rs ≡ 0
unfolding sum_by numbers
sum_none c m n [] low up h = refl
sum_none c m n (e ∷ rs) low up h =
    omega (
      arith,
      at_other c e.number m n (λ (x : c ≡ e.number). omega (arith, up.0)),
      sum_none c m n rs
          e.number up.1 (omega (arith, up.0)),
    )

sum_one : (c m n : ℕ) (rs : List Entry) (low : ℕ) → Rising low (numbers rs) → sum_by (λ q. at c q m n) rs ≤ 1
unfolding sum_by numbers
sum_one c m n [] low up = omega arith
sum_one c m n (e ∷ rs) low up =
    split (eqb c e.number)
    (λ s. omega (
      arith,
      at_one c e.number m n,
      sum_none c m n rs e.number up.1
          (omega (arith, eqb-true c e.number s)),
    ))
    (λ s. omega (arith, at_other c e.number m n (eqb-false c e.number s), sum_one c m n rs e.number up.1))

sum_zero : (rs : List Entry) → sum_by (λ q. 0) rs ≡ 0
unfolding sum_by
sum_zero [] = refl
sum_zero (e ∷ rs) = omega (arith, sum_zero rs)

sum_lower : (rs : List Entry) (low : ℕ) → Rising low (numbers rs) → (p : List Entry) (n : ℕ)
    → sum_by (λ q. lower p q n) rs ≤ length p
unfolding lower at
sum_lower rs low up [] n = omega (arith, sum_zero rs)
sum_lower rs low up (e ∷ p) n =
    omega (
      arith,
      sum_add (λ q. lower (e ∷ p) q n) (λ q. at e.beside q e.number n) (λ q. lower p q n) rs
          (λ q. refl),
      sum_one e.beside e.number n rs low up,
      sum_lower rs low up p n,
    )

total_left : (rs p : List Entry) (n : ℕ) → total rs ≤ total (left rs p n) + sum_by (λ q. lower p q n) rs
unfolding total left sum_by
total_left [] p n = omega arith
total_left (e ∷ rs) p n = omega (arith, total_left rs p n)

pub fair_exists : (key : ℕ → ℕ → ℕ) (rs : List Entry) → Rising 0 (numbers rs) → (p : List Entry) → length p < total rs
    → (w : ℕ)
    → Fair key rs p w (or_zero (choose (key w) (left rs p w)))
fair_exists key rs up p h w =
    let l : 0 < total (left rs p w) = omega (arith, total_left rs p w, sum_lower rs 0 up p w) in
    let s : (q : ℕ) × (0 < held (left rs p w) q) = total_some (left rs p w) l in
    let b : Best (key w) (left rs p w) (or_zero (choose (key w) (left rs p w))) = choose_best (key w) (left rs p w)
    s.0 s.1 in
    record {
      room = omega (arith, b.room, held_left rs 0 up p w (or_zero (choose (key w) (left rs p w))));
      least = λ q x. b.least q (omega (arith, held_left rs 0 up p w q));
    }
